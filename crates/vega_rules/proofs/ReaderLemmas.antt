-- The fronts of a place, one after the other.
use Rattle.std.proofs.Common.{◌≡◌, ℕ, zero, suc, ◌<◌, List, [], ◌∷◌, ◌++◌, length, take, map, Option, Some, None}
use Rattle.std.proofs.Common.{refl, sym, ap, ◌∙◌, subst, arith}
use Rattle.std.specs.Option.{option_or}
use Rattle.vega_rules.specs.Places.{fronts}
use Rattle.vega_rules.specs.Edges.{first_found}

-- the fronts without the place itself
abbrev outer : List ℕ → List (List ℕ)
outer [] = []
outer (n ∷ ns) = map (λ front. n ∷ front) (outer ns) ++ ([] ∷ [])

itself : (s : List ℕ) → fronts s ≡ s ∷ outer s
itself [] = refl
itself (n ∷ ns) = ap (λ fs. map (λ front. n ∷ front) fs ++ ([] ∷ [])) (itself ns)

outer_more : (s : List ℕ) (n : ℕ) → n < length s → outer (take (suc n) s) ≡ fronts (take n s)
outer_more [] n h = absurd (omega arith)
outer_more (x ∷ xs) zero h = refl
outer_more (x ∷ xs) (suc n) h = ap (λ fs. map (λ front. x ∷ front) fs ++ ([] ∷ [])) (outer_more xs n (omega arith))

or_none : (o : Option ℕ) → option_or o None ≡ o
or_none None = refl
or_none (Some g) = refl

module _ (look : List ℕ → Option ℕ) where
  -- what is found at the front is found
  pub found_first : (s : List ℕ) (g : ℕ) → look s ≡ Some g → first_found look (fronts s) ≡ Some g
  found_first s g h = ap (first_found look) (itself s) ∙ ap (λ o. option_or o (first_found look (outer s))) h

  -- and where nothing is, it is looked for in the rest
  pub found_later : (s : List ℕ) (n m : ℕ) (whole : Option ℕ) → n < length s → m ≡ suc n → look (take m s) ≡ None
      → first_found look (fronts (take m s)) ≡ whole → first_found look (fronts (take n s)) ≡ whole
  found_later s n m whole l is none h =
      let none_there : look (take (suc n) s) ≡ None = subst (λ k. look (take k s) ≡ None) is none in
      let split : first_found look (fronts (take (suc n) s)) ≡ first_found look (fronts (take n s)) =
      ap (first_found look) (itself (take (suc n) s))
      ∙ ap (λ o. option_or o (first_found look (outer (take (suc n) s)))) none_there
      ∙ ap (first_found look) (outer_more s n l) in
      sym split ∙ subst (λ k. first_found look (fronts (take k s)) ≡ whole) is h

  -- at last the top is left
  pub found_top : (s : List ℕ) (n : ℕ) (whole : Option ℕ) → n ≡ 0 → first_found look (fronts (take n s)) ≡ whole → look [] ≡ whole
  found_top s n whole z h = sym (or_none (look [])) ∙ subst (λ k. first_found look (fronts (take k s)) ≡ whole) z h
