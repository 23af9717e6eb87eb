-- Stores beside their selections.
use Rattle.std.proofs.Common.{◌≡◌, ◌⊎◌, ℕ, ◌+◌, ◌≤◌, inl, inr, List, [], ◌∷◌, ◌++◌, length, map, sym, ap, append-nil, append_assoc, ◌∙◌, arith}
use Rattle.std.specs.Prelude.{zip}
use Rattle.vega_selections.specs.declared.selections.VgSelection.{VgSelection}
use Rattle.vega_events.specs.Premises.{count_kept, count_all}

-- where one of two lists has ended, no pair is left
pub zip_ended : {X Y Z : Type 0} (f : X × Y → Z) (out whole : List Z) (xs : List X) (ys : List Y) → (length xs ≡ 0) ⊎ (length ys ≡ 0)
    → out ++ map f (zip xs ys) ≡ whole → out ≡ whole
zip_ended f out whole [] ys end is = sym (append-nil out) ∙ is
zip_ended f out whole (x ∷ xs) [] end is = sym (append-nil out) ∙ is
zip_ended f out whole (x ∷ xs) (y ∷ ys) (inl end) is = absurd (omega (arith, end))
zip_ended f out whole (x ∷ xs) (y ∷ ys) (inr end) is = absurd (omega (arith, end))

-- one pair more
pub zip_goes_on : {X Y Z : Type 0} (f : X × Y → Z) (out new whole : List Z) (xs others : List X) (ys rest : List Y) (x : X) (y : Y) (r : Z)
    → xs ≡ x ∷ others → ys ≡ y ∷ rest → r ≡ f (x, y) → new ≡ out ++ r ∷ [] → out ++ map f (zip xs ys) ≡ whole
    → new ++ map f (zip others rest) ≡ whole
zip_goes_on f out new whole xs others ys rest x y r first second is push before =
    ap (λ l. l ++ map f (zip others rest)) push ∙ append_assoc out (r ∷ []) (map f (zip others rest))
    ∙ ap (λ z. out ++ z ∷ map f (zip others rest)) is ∙ sym (λ i. out ++ map f (zip (first i) (second i))) ∙ before

pub no_less : (a b c : ℕ) → a ≤ b → b ≤ c → a ≤ c
no_less a b c h k = omega (arith, h, k)

-- the steps of one selection more
pub few_more : (xs others : List VgSelection) (v : VgSelection) (start now next all : ℕ) → xs ≡ v ∷ others
    → next ≤ now + count_kept v.selection → now + count_all xs ≤ start + all → next + count_all others ≤ start + all
few_more xs others v start now next all first step before =
    let count : count_all xs ≡ count_kept v.selection + count_all others = ap count_all first in omega (arith, count, step, before)
