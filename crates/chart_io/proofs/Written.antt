-- Steps of a write in pieces.
use Rattle.std.proofs.Common.{◌<◌, get_or, length-take, length-append, ◌-◌, ◌≡◌, ◌≤◌, ℕ, ◌+◌, List, ◌++◌, length, take, drop, Option, Some}
use Rattle.std.proofs.Common.{None, arith, sym, ap, ◌∙◌, append_assoc, take-append-drop, refl}
use Rattle.std.proofs.lemmas.Grind.{common_steps, flat_map-append}
use Rattle.std.proofs.lemmas.List.{take-take, take_at, drop_more}
use Rattle.std.specs.List.{flat_map}
use lib.Seq.{take-add, take-append-add}
use Rattle.chart_io.specs.Outside.{Kept, Appended, AppendedPrefix}

pieces_joined : (held bytes : List ℕ) (at room n : ℕ) → n ≤ room
    → (held ++ take at bytes) ++ take n (take room (drop at bytes)) ≡ held ++ take (at + n) bytes
pieces_joined held bytes at room n le =
    append_assoc held (take at bytes) (take n (take room (drop at bytes)))
    ∙ ap (λ xs. held ++ (take at bytes ++ xs)) (take-take n room (drop at bytes) le) ∙ ap (λ xs. held ++ xs) (sym (take-add at n bytes))

-- a piece that is taken from where the written bytes end
pub appended_more : (old mid now : Option (List ℕ)) (bytes : List ℕ) (at room n : ℕ) → n ≤ room → Appended old mid (take at bytes)
    → Appended mid now (take n (take room (drop at bytes))) → Appended old now (take (at + n) bytes)
appended_more None mid now bytes at room n le before after = tt
appended_more (Some held) mid now bytes at room n le before after =
    (rw before at after) ∙ ap (λ xs. Some xs) (pieces_joined held bytes at room n le)

-- what was told and then some of the bytes is a beginning of it all
begins : (held bytes : List ℕ) (at : ℕ)
    → (length held ≤ length (held ++ take at bytes)) × (held ++ take at bytes ≡ take (length (held ++ take at bytes)) (held ++ bytes))
begins held bytes at =
    let front = held ++ take at bytes in
    let all : held ++ bytes ≡ front ++ drop at bytes =
    sym (append_assoc held (take at bytes) (drop at bytes) ∙ ap (λ xs. held ++ xs) (take-append-drop at bytes)) in
    (grind (arith, common_steps), sym (ap (λ xs. take (length front) xs) all ∙ take_at front (drop at bytes) (length front) refl))

-- some of the bytes, and then nothing
pub appended_some : (old mid now : Option (List ℕ)) (bytes : List ℕ) (at : ℕ) → Appended old mid (take at bytes) → Kept mid now
    → AppendedPrefix old now bytes
appended_some None mid now bytes at before after = tt
appended_some (Some held) mid now bytes at before after =
    let same : now ≡ Some (held ++ take at bytes) = rw before at after in rw same (begins held bytes at)

longer : (held done piece rest all : List ℕ) → length (held ++ done) ≤ length all → all ≡ take (length all) ((held ++ done) ++ piece)
    → (length held ≤ length all) × (all ≡ take (length all) (held ++ ((done ++ piece) ++ rest)))
longer held done piece rest all more begun = grind (arith, common_steps)

-- what was written before, and then a beginning of a piece: a beginning of what is to be written
pub prefix_within : (old mid now : Option (List ℕ)) (done piece rest whole : List ℕ) → whole ≡ (done ++ piece) ++ rest
    → Appended old mid done → AppendedPrefix mid now piece → AppendedPrefix old now whole
prefix_within None mid now done piece rest whole e before after = tt
prefix_within (Some held) mid None done piece rest whole e before after = absurd (rw before at after)
prefix_within (Some held) mid (Some all) done piece rest whole e before after =
    let (more, begun) = rw before at after in rw e (longer held done piece rest all more begun)

split : (held bytes all : List ℕ) → length held ≤ length all → all ≡ take (length all) (held ++ bytes)
    → (n : ℕ) × (n ≤ length bytes) × (all ≡ held ++ take n bytes)
split held bytes all more begun =
    let n = length all - length held in
    let whole : length all ≡ length held + n = omega arith in
    let short = simp (length-take, length-append) at (ap length begun) in
    (n, omega arith, begun ∙ ap (λ k. take k (held ++ bytes)) whole ∙ take-append-add held bytes n)

-- the same in other words: some number of the bytes was appended
pub appended_count : (old now : Option (List ℕ)) (bytes : List ℕ) → AppendedPrefix old now bytes
    → (n : ℕ) × (n ≤ length bytes) × Appended old now (take n bytes)
appended_count None now bytes h = (0, omega arith, tt)
appended_count (Some held) None bytes h = absurd h
appended_count (Some held) (Some all) bytes h =
    let (n, within, same) = split held bytes all h.0 h.1 in (n, within, ap (λ xs. Some xs) same)

-- what is written item by item: the items before i, the one at i, and those after it
pub flat_map_split : {X : Type 0} (f : X → List ℕ) (xs : List X) (i : ℕ) (d : X) → i < length xs
    → flat_map f xs ≡ (flat_map f (take i xs) ++ f (get_or xs i d)) ++ flat_map f (drop (i + 1) xs)
flat_map_split f xs i d lt =
    ap (flat_map f) (sym (take-append-drop i xs)) ∙ flat_map-append f (take i xs) (drop i xs)
    ∙ ap (λ ys. flat_map f (take i xs) ++ flat_map f ys) (drop_more xs i d lt)
    ∙ sym (append_assoc (flat_map f (take i xs)) (f (get_or xs i d)) (flat_map f (drop (i + 1) xs)))
