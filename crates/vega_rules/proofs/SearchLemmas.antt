-- The first part with a key, seen through what the parts hold.
use Rattle.std.proofs.Common.{◌≡◌, ℕ, zero, suc, ◌+◌, Bool, true, false, ◌||◌, List, [], ◌∷◌, drop, Option, Some, None, cond, refl, ap, ◌∙◌, add-one}
use Rattle.std.specs.Prelude.{find, filter_map, slice_get, option_and_then, is_some}
use Rattle.std.specs.Option.{option_map_or}
use Rattle.std.specs.List.{position_from, cons_option, list_any}
use Rattle.vega_parts.specs.declared.part.Part.{Part}

got : (whole ps : List Part) (n : ℕ) (p : Part) → drop n whole ≡ p ∷ ps → slice_get whole n ≡ Some p
got [] ps zero p h = absurd (cc)
got [] ps (suc n) p h = absurd (cc)
got (x ∷ whole) ps zero p h = cc
got (x ∷ whole) ps (suc n) p h = got whole ps n p h

gone : (whole ps : List Part) (n : ℕ) (p : Part) → drop n whole ≡ p ∷ ps → drop (suc n) whole ≡ ps
gone [] ps zero p h = absurd (cc)
gone [] ps (suc n) p h = absurd (cc)
gone (x ∷ whole) ps zero p h = cc
gone (x ∷ whole) ps (suc n) p h = gone whole ps n p h

module _ {U : Type 0} (held : Part → Option U) (test : U → Bool) (key : Part → Bool) (same : (p : Part)
    → key p ≡ option_map_or test (held p) false) where
  abbrev pub look : List Part → Option ℕ → Option U
  look whole found = option_and_then (λ i. option_and_then held (slice_get whole i)) found

  at_part : (whole : List Part) (n : ℕ) (p : Part) → slice_get whole n ≡ Some p → (o : Option U) → held p ≡ o
      → (later : Option ℕ) (rest : List U) → look whole later ≡ find test rest
      → look whole (cond (option_map_or test o false) (Some n) later) ≡ find test (cons_option o rest)
  at_part whole n p is None by later rest h = h
  at_part whole n p is (Some u) by later rest h = by_test (test u)
    where
      by_test : (b : Bool) → look whole (cond b (Some n) later) ≡ cond b (Some u) (find test rest)
      by_test true = ap (option_and_then held) is ∙ by
      by_test false = h

  found_from : (whole ps : List Part) (n : ℕ) → drop n whole ≡ ps → look whole (position_from key n ps) ≡ find test (filter_map held ps)
  found_from whole [] n h = refl
  found_from whole (p ∷ ps) n h =
      ap (λ b. look whole (cond b (Some n) (position_from key (n + 1) ps))) (same p)
      ∙ at_part whole n p (got whole ps n p h) (held p) refl (position_from key (n + 1) ps) (filter_map held ps)
      (found_from whole ps (n + 1) (rw add-one (gone whole ps n p h)))

  -- what the first part with the key holds is the first that passes the test
  pub first_held : (parts : List Part) (number : Option ℕ) → number ≡ position_from key 0 parts
      → look parts number ≡ find test (filter_map held parts)
  first_held parts number h = ap (look parts) h ∙ found_from parts parts 0 refl

  any_part : (n : ℕ) (o : Option U) (later : Option ℕ) (rest : List U) → is_some later ≡ list_any test rest
      → is_some (cond (option_map_or test o false) (Some n) later) ≡ list_any test (cons_option o rest)
  any_part n None later rest h = h
  any_part n (Some u) later rest h = by_test (test u)
    where
      by_test : (b : Bool) → is_some (cond b (Some n) later) ≡ (b || list_any test rest)
      by_test true = refl
      by_test false = h

  any_from : (ps : List Part) (n : ℕ) → is_some (position_from key n ps) ≡ list_any test (filter_map held ps)
  any_from [] n = refl
  any_from (p ∷ ps) n =
      ap (λ b. is_some (cond b (Some n) (position_from key (n + 1) ps))) (same p)
      ∙ any_part n (held p) (position_from key (n + 1) ps) (filter_map held ps) (any_from ps (n + 1))

  -- there is a part with the key where something passes the test
  pub any_held : (parts : List Part) (number : Option ℕ) → number ≡ position_from key 0 parts
      → is_some number ≡ list_any test (filter_map held parts)
  any_held parts number h = ap is_some h ∙ any_from parts 0
