-- That the test of selections is right.
use Rattle.std.proofs.Common.{◌≡◌, ◌⊎◌, inl, inr, ℕ, zero, suc, ◌<◌, Bool, true, false, not, ◌&&◌, ◌||◌, Option, Some, None, List, [], ◌∷◌, ◌++◌}
use Rattle.std.proofs.Common.{length, get_or, map, refl, sym, ap, subst, ◌∙◌, append_assoc, arith, All}
use Rattle.std.specs.Prelude.{◌≢◌, is_none}
use Rattle.std.specs.Option.{option_map_or}
use Rattle.std.specs.List.{list_all, list_any, AllPairs}
use Rattle.std.specs.Str.{bytes_eq}
use Rattle.std.proofs.lemmas.Bool.{false≢true}
use Rattle.std.proofs.lemmas.List.{append-nil}
use Rattle.std.proofs.lemmas.List.Elements.{All-nil, All-cons, All-head, All-tail}
use Rattle.std.proofs.lemmas.List.Folds.{list_any_at}
use Rattle.std.proofs.lemmas.List.Quantifiers.{all_pairs_push}
use Rattle.std.proofs.lemmas.Slice.Eq.{bytes_eq-Decides}
use Rattle.selection_events.specs.declared.selection.SelectionOf.{SelectionOf}
use Rattle.selection_events.specs.Kept.{fields_of, KeepsTheSame}
use Rattle.vega_selections.specs.declared.selections.VgSelection.{VgSelection}
use Rattle.vega_selections.specs.Selections.{selections_of}
use Rattle.vega_selections.specs.Kept.{selection_name, IsKept}
use Rattle.selection_rules.specs.Tested.{are_own, has_all, are_same, keeps_the_same, is_empty, are_apart, is_kept, TestedAreKept, KeptPass}

-- ---- tests of two

both : (a b : Bool) → (a && b) ≡ true → (a ≡ true) × (b ≡ true)
both true b h = (refl, h)
both false b h = absurd (cc)

joined : (a b : Bool) → a ≡ true → b ≡ true → (a && b) ≡ true
joined true b e f = f
joined false b e f = absurd (cc)

bools_same : (a b : Bool) → (a ≡ true → b ≡ true) → (b ≡ true → a ≡ true) → a ≡ b
bools_same true b there back = sym (there refl)
bools_same false true there back = back refl
bools_same false false there back = refl

-- ---- names of their own

unlike : (a b : Bool) → (not a && b) ≡ true → (a ≡ false) × (b ≡ true)
unlike true b h = absurd (cc)
unlike false b h = (refl, h)

own_from : (before names : List (List ℕ)) → AllPairs (λ a b. a ≢ b) before → are_own before names ≡ true → AllPairs (λ a b. a ≢ b) (before ++ names)
own_from before [] h e = subst (AllPairs (λ a b. a ≢ b)) (sym (append-nil before)) h
own_from before (name ∷ names) h e =
    let parts = unlike (list_any (bytes_eq name) before) (are_own (before ++ name ∷ []) names) e in
    let other : (k : ℕ) (d : List ℕ) → k < length before → get_or before k d ≢ name = λ k d in_it same.
    let found : list_any (bytes_eq name) before ≡ true =
    list_any_at (bytes_eq name) before k d in_it ((bytes_eq-Decides name (get_or before k d)).1 (sym same)) in
    absurd (cc (found, parts.0)) in
    subst (AllPairs (λ a b. a ≢ b)) (append_assoc before (name ∷ []) names)
    (own_from (before ++ name ∷ []) names (all_pairs_push (λ a b. a ≢ b) before name h other) parts.1)

own_names : (names : List (List ℕ)) → are_own [] names ≡ true → AllPairs (λ a b. a ≢ b) names
own_names names e = own_from [] names (λ i j d less within. absurd (omega (arith, less, within))) e

-- and back

not_among : (name : List ℕ) (before : List (List ℕ)) → ((k : ℕ) (d : List ℕ) → k < length before → get_or before k d ≢ name)
    → list_any (bytes_eq name) before ≡ false
not_among name [] h = refl
not_among name (x ∷ xs) h = here (bytes_eq name x) refl (not_among name xs (λ k d less. h (suc k) d (omega (arith, less))))
  where
    here : (b : Bool) → bytes_eq name x ≡ b → list_any (bytes_eq name) xs ≡ false → (b || list_any (bytes_eq name) xs) ≡ false
    here true e rest = absurd (h zero x (omega arith) (sym ((bytes_eq-Decides name x).0 e)))
    here false e rest = rest

fresh : (a b : Bool) → a ≡ false → b ≡ true → (not a && b) ≡ true
fresh true b e f = absurd (false≢true (sym e))
fresh false b e f = f

module _ (name : List ℕ) (names : List (List ℕ)) where
  later : (before : List (List ℕ)) (x : List ℕ) → AllPairs (λ a b. a ≢ b) (x ∷ before ++ name ∷ names)
      → AllPairs (λ a b. a ≢ b) (before ++ name ∷ names)
  later before x h = λ i j d less within. h (suc i) (suc j) d (omega (arith, less)) (omega (arith, within))

  at_end : (before : List (List ℕ)) (d : List ℕ) → get_or (before ++ name ∷ names) (length before) d ≡ name
  at_end [] d = refl
  at_end (x ∷ xs) d = at_end xs d

  long : (before : List (List ℕ)) → length before < length (before ++ name ∷ names)
  long [] = omega arith
  long (x ∷ xs) = let h = long xs in omega (arith, h)

  apart : (before : List (List ℕ)) → AllPairs (λ a b. a ≢ b) (before ++ name ∷ names) → (k : ℕ) (d : List ℕ) → k < length before
      → get_or before k d ≢ name
  apart [] h k d less = absurd (omega (arith, less))
  apart (x ∷ xs) h zero d less = λ same. h zero (suc (length xs)) d (omega arith) (long (x ∷ xs)) (same ∙ sym (at_end (x ∷ xs) d))
  apart (x ∷ xs) h (suc k) d less = apart xs (later xs x h) k d (omega (arith, less))

are_own_from : (before names : List (List ℕ)) → AllPairs (λ a b. a ≢ b) (before ++ names) → are_own before names ≡ true
are_own_from before [] h = refl
are_own_from before (name ∷ names) h =
    fresh (list_any (bytes_eq name) before) (are_own (before ++ name ∷ []) names) (not_among name before (apart name names before h))
    (are_own_from (before ++ name ∷ []) names (subst (AllPairs (λ a b. a ≢ b)) (sym (append_assoc before (name ∷ []) names)) h))

-- ---- lists with the same names

-- names among others are found there
first_among : (others names : List (List ℕ)) (name q : List ℕ) (b : Bool) → bytes_eq q name ≡ b → (b || list_any (bytes_eq q) names) ≡ true
    → list_any (bytes_eq name) others ≡ true → (list_any (bytes_eq q) names ≡ true → list_any (bytes_eq q) others ≡ true)
    → list_any (bytes_eq q) others ≡ true
first_among others names name q true e found there later =
    subst (λ x. list_any (bytes_eq x) others ≡ true) (sym ((bytes_eq-Decides q name).0 e)) there
first_among others names name q false e found there later = later found

among : (others names : List (List ℕ)) → has_all others names ≡ true → (q : List ℕ) → list_any (bytes_eq q) names ≡ true
    → list_any (bytes_eq q) others ≡ true
among others [] all q found = absurd (cc)
among others (name ∷ names) all q found =
    let parts = both (list_any (bytes_eq name) others) (has_all others names) all in
    first_among others names name q (bytes_eq q name) refl found parts.0 (among others names parts.1 q)

-- and what is found there is among them
first_found : (b c : Bool) → b ≡ true → (b || c) ≡ true
first_found true c e = refl
first_found false c e = absurd (cc)

other_found : (b c : Bool) → c ≡ true → (b || c) ≡ true
other_found true c e = refl
other_found false c e = e

all_among : (others names : List (List ℕ)) → ((q : List ℕ) → list_any (bytes_eq q) names ≡ true → list_any (bytes_eq q) others ≡ true)
    → has_all others names ≡ true
all_among others [] found = refl
all_among others (name ∷ names) found =
    joined (list_any (bytes_eq name) others) (has_all others names)
    (found name (first_found (bytes_eq name name) (list_any (bytes_eq name) names) ((bytes_eq-Decides name name).1 refl)))
    (all_among others names (λ q is. found q (other_found (bytes_eq q name) (list_any (bytes_eq q) names) is)))

same_found : (a b : List (List ℕ)) → are_same a b ≡ true → (q : List ℕ) → list_any (bytes_eq q) a ≡ list_any (bytes_eq q) b
same_found a b e q =
    let parts = both (has_all a b) (has_all b a) e in
    bools_same (list_any (bytes_eq q) a) (list_any (bytes_eq q) b) (among b a parts.1 q) (among a b parts.0 q)

found_same : (a b : List (List ℕ)) → ((q : List ℕ) → list_any (bytes_eq q) a ≡ list_any (bytes_eq q) b) → are_same a b ≡ true
found_same a b same =
    joined (has_all a b) (has_all b a) (all_among a b (λ q is. same q ∙ is)) (all_among b a (λ q is. sym (same q) ∙ is))

-- ---- selections

some_same : (x y : List (List ℕ)) → Some x ≡ Some y → x ≡ y
some_same x y e = cc

the_same : (toggle : Option (List (List ℕ))) (fields : List (List ℕ)) → option_map_or (λ other. are_same other fields) toggle true ≡ true
    → KeepsTheSame toggle fields
the_same None fields e = λ other is. absurd (cc (is))
the_same (Some own) fields e = λ other is name.
    ap (λ names. list_any (bytes_eq name) names) (sym (some_same own other is)) ∙ same_found own fields e name

same_kept : (toggle : Option (List (List ℕ))) (fields : List (List ℕ)) → KeepsTheSame toggle fields
    → option_map_or (λ other. are_same other fields) toggle true ≡ true
same_kept None fields h = refl
same_kept (Some own) fields h = found_same own fields (h own refl)

are_apart_so : {X Y : Type 0} (drag : List X) (click toggle : Option Y) → (is_empty drag || (is_none click && is_none toggle)) ≡ true
    → (drag ≡ []) ⊎ ((click ≡ None) × (toggle ≡ None))
are_apart_so [] click toggle e = inl refl
are_apart_so (d ∷ ds) None None e = inr (refl, refl)
are_apart_so (d ∷ ds) None (Some y) e = absurd (cc)
are_apart_so (d ∷ ds) (Some x) toggle e = absurd (cc)

apart_passes : {X Y : Type 0} (drag : List X) (click toggle : Option Y) → (drag ≡ []) ⊎ ((click ≡ None) × (toggle ≡ None))
    → (is_empty drag || (is_none click && is_none toggle)) ≡ true
apart_passes drag click toggle (inl e) = ap (λ d. is_empty d || (is_none click && is_none toggle)) e
apart_passes drag click toggle (inr (e, f)) =
    other_found (is_empty drag) (is_none click && is_none toggle) (joined (is_none click) (is_none toggle) (ap is_none e) (ap is_none f))

selection_kept : (s : VgSelection) → is_kept s ≡ true → IsKept s
selection_kept v e =
    let s : SelectionOf = v.selection in
    let parts = both (are_apart s) (keeps_the_same s) e in
    record { alike = the_same s.toggle (fields_of s) parts.1; apart = are_apart_so s.drag s.click s.toggle parts.0 }

selection_passes : (s : VgSelection) → IsKept s → is_kept s ≡ true
selection_passes v h =
    let s : SelectionOf = v.selection in
    joined (are_apart s) (keeps_the_same s) (apart_passes s.drag s.click s.toggle h.apart) (same_kept s.toggle (fields_of s) h.alike)

all_kept : (selections : List VgSelection) → list_all is_kept selections ≡ true → All IsKept selections
all_kept [] e = All-nil IsKept
all_kept (s ∷ others) e =
    let parts = both (is_kept s) (list_all is_kept others) e in
    All-cons IsKept s others (selection_kept s parts.0) (all_kept others parts.1)

all_pass : (selections : List VgSelection) → All IsKept selections → list_all is_kept selections ≡ true
all_pass [] h = refl
all_pass (s ∷ others) h =
    joined (is_kept s) (list_all is_kept others) (selection_passes s (All-head IsKept s others h)) (all_pass others (All-tail IsKept s others h))

-- ---- specifications

pub tested_are_kept : TestedAreKept
tested_are_kept g e =
    let parts = both (are_own [] (map selection_name (selections_of g))) (list_all is_kept (selections_of g)) e in
    record { own_names = own_names (map selection_name (selections_of g)) parts.0; each = all_kept (selections_of g) parts.1 }

pub kept_pass : KeptPass
kept_pass g h =
    joined (are_own [] (map selection_name (selections_of g))) (list_all is_kept (selections_of g))
    (are_own_from [] (map selection_name (selections_of g)) h.own_names) (all_pass (selections_of g) h.each)
