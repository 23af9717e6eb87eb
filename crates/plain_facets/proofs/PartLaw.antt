-- Why the rows that belong to a copy are those that have its cells, and why such rows are a list of rows.
use Rattle.std.proofs.Common.{◌≡◌, ℕ, zero, suc, ◌+◌, ◌<◌, ◌≤◌, Bool, true, false, cond, List, [], ◌∷◌, ◌++◌, map, filter, filter_map}
use Rattle.std.proofs.Common.{length, get_or, slice_get, eqb, Some, All, AllPairs, refl, sym, ap, ap₂, ◌∙◌, arith}
use Rattle.std.proofs.lemmas.Bool.{eqb-true, cond_both}
use Rattle.std.proofs.lemmas.List.{append_assoc, length-append}
use Rattle.std.proofs.lemmas.List.Elements.{filter_agree, All-cons, All-head, All-tail}
use Rattle.std.proofs.lemmas.List.Kept.{AllPairs-cons}
use Rattle.cell_value.specs.declared.cell.Cell.{Cell}
use Rattle.cell_value.specs.declared.state.Key.{Key}
use Rattle.cell_value.specs.Datum.{Datum}
use Rattle.cell_value.specs.State.{greatest_id}
use Rattle.plain_rows.specs.Rows.{IsBefore}
use Rattle.plain_groups.proofs.PlaceLemmas.{by_cases, same_are_equal, same_itself, equal_itself, passes_there}
use Rattle.plain_facets.specs.Facets.{key_of, is_key, home_among, members_from}
use Rattle.plain_facets.specs.Laws.{PartsAreMembers, PartsAreRows}
use Rattle.plain_facets.proofs.DifferentLemmas.{head_apart, tail_pairs}

found_there : {X : Type 0} (before : List X) (x : X) (rest : List X) → slice_get (before ++ x ∷ rest) (length before) ≡ Some x
found_there [] x rest = refl
found_there (b ∷ bs) x rest = found_there bs x rest

-- the rows at the places of those with a home are those with that home
pub rows_at_home : {X : Type 0} (rows : List X) (home : X → ℕ) (k i : ℕ) (before rest : List X) → rows ≡ before ++ rest → i ≡ length before
    → filter_map (slice_get rows) (members_from k i (map home rest)) ≡ filter (λ row. eqb (home row) k) rest
rows_at_home rows home k i before [] e at = refl
rows_at_home rows home k i before (row ∷ rest) e at =
    pick (eqb (home row) k)
    (rows_at_home rows home k (i + 1) (before ++ row ∷ []) rest
    (e ∙ sym (append_assoc before (row ∷ []) rest)) (omega (arith, at, length-append before (row ∷ []))))
  where
    here : slice_get rows i ≡ Some row
    here = ap₂ slice_get e at ∙ found_there before row rest

    one : (places : List ℕ) → slice_get rows i ≡ Some row → filter_map (slice_get rows) (i ∷ places) ≡ row ∷ filter_map (slice_get rows) places
    one places h = rw h refl

    pick : (b : Bool) → filter_map (slice_get rows) (members_from k (i + 1) (map home rest)) ≡ filter (λ other. eqb (home other) k) rest
        → filter_map (slice_get rows) (cond b (i ∷ members_from k (i + 1) (map home rest)) (members_from k (i + 1) (map home rest)))
        ≡ cond b (row ∷ filter (λ other. eqb (home other) k) rest) (filter (λ other. eqb (home other) k) rest)
    pick true h = one (members_from k (i + 1) (map home rest)) here ∙ ap (λ l. row ∷ l) h
    pick false h = h

pub found_within : (copies : List (List Cell)) (k : ℕ) (key : List Cell) → slice_get copies k ≡ Some key → (k < length copies) × (get_or copies k [] ≡ key)
found_within [] k key e = absurd (cc)
found_within (c ∷ cs) zero key e = (omega arith, some_equal c key e)
  where
    some_equal : (a b : List Cell) → Some a ≡ Some b → a ≡ b
    some_equal a b h = cc
found_within (c ∷ cs) (suc k) key e = let later = found_within cs k key e in (omega (arith, later.0), later.1)

-- a row has the home of a copy exactly where it has its cells
pub at_home : (fields : List (List ℕ)) (copies : List (List Cell)) (k : ℕ) (key : List Cell) → slice_get copies k ≡ Some key → home_among copies key ≡ k
    → (row : Datum) → eqb (home_among copies (key_of fields row)) k ≡ is_key (key_of fields row) key
at_home fields copies k key there leads row =
    by_cases (is_key (key_of fields row) key)
    (λ same. ap (λ q. eqb (home_among copies q) k) (same_are_equal (key_of fields row) key same) ∙ ap (λ n. eqb n k) leads ∙ equal_itself k ∙ sym same)
    (λ other. by_cases (eqb (home_among copies (key_of fields row)) k) (λ e. absurd (apart other (eqb-true _ k e))) (λ e. e ∙ sym other))
  where
    apart : is_key (key_of fields row) key ≡ false → home_among copies (key_of fields row) ≡ k → ⊥
    apart other e =
        let within = found_within copies k key there in
        let passes : is_key (get_or copies k []) (key_of fields row) ≡ true =
        passes_there (λ c. is_key c (key_of fields row)) 0 (length copies) k copies [] (e ∙ omega arith) within.0 (omega arith) in
        let equal : key ≡ key_of fields row = same_are_equal key (key_of fields row) (ap (λ c. is_key c (key_of fields row)) (sym within.1) ∙ passes) in
        let itself : is_key (key_of fields row) key ≡ true = ap (is_key (key_of fields row)) equal ∙ same_itself (key_of fields row) in
        cc

pub parts_are_members : PartsAreMembers
parts_are_members fields rows copies k key there leads =
    rows_at_home rows (λ row. home_among copies (key_of fields row)) k 0 [] rows refl refl
    ∙ filter_agree (λ row. eqb (home_among copies (key_of fields row)) k) (λ row. is_key (key_of fields row) key) (at_home fields copies k key there leads) rows

-- a part of a list, seen by what each element has
module _ {X Y : Type 0} (f : X → Y) (p : X → Bool) where
  part_all : (P : Y → Type 0) (xs : List X) → All P (map f xs) → All P (map f (filter p xs))
  part_all P [] h = h
  part_all P (x ∷ xs) h =
      let rest = part_all P xs (All-tail P (f x) (map f xs) h) in
      cond_both (p x) (x ∷ filter p xs) (filter p xs) (λ l. All P (map f l))
      (λ _. All-cons P (f x) (map f (filter p xs)) (All-head P (f x) (map f xs) h) rest) (λ _. rest)

  part_pairs : (R : Y → Y → Type 0) (xs : List X) → AllPairs R (map f xs) → AllPairs R (map f (filter p xs))
  part_pairs R [] h = h
  part_pairs R (x ∷ xs) h =
      let rest = part_pairs R xs (tail_pairs R (f x) (map f xs) h) in
      cond_both (p x) (x ∷ filter p xs) (filter p xs) (λ l. AllPairs R (map f l))
      (λ _. AllPairs-cons R (f x) (map f (filter p xs)) (part_all (R (f x)) xs (head_apart R (f x) (map f xs) h)) rest) (λ _. rest)

  part_short : (xs : List X) → length (map f (filter p xs)) ≤ length (map f xs)
  part_short [] = omega arith
  part_short (x ∷ xs) =
      let rest = part_short xs in
      cond_both (p x) (x ∷ filter p xs) (filter p xs) (λ l. length (map f l) ≤ suc (length (map f xs))) (λ _. omega (arith, rest)) (λ _. omega (arith, rest))

pub parts_are_rows : PartsAreRows
parts_are_rows fields key rows are =
    let in_part : Datum → Bool = λ row. is_key (key_of fields row) key in
    record {
      rise = part_pairs (λ (row : Datum). row.key) in_part IsBefore rows are.rise;
      small_ids = part_all (λ (row : Datum). row.key) in_part (λ (k : Key). k.id ≤ greatest_id) rows are.small_ids;
      few = omega (arith, part_short (λ (row : Datum). row.key) in_part rows, are.few);
    }
