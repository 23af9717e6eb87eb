-- The widths that are chosen from.
use Rattle.std.proofs.Common.{◌≡◌, ℕ, ◌*◌, ◌<◌, ◌≤◌, Bool, true, false, ◌&&◌, nat_lt, nat_le, Some, List, [], ◌∷◌, refl, arith}
use Rattle.std.specs.Prelude.{find, min, IfSome}
use Rattle.std.specs.List.{list_all}
use Rattle.std.proofs.lemmas.Bool.{cond_both}
use Rattle.std.proofs.lemmas.Bool.Decides.{nat_tests}
use Rattle.std.proofs.lemmas.Option.{IfSome_then}
use Rattle.fixed_num.specs.Number.{limit}
use Rattle.plain_bins.specs.Steps.{bin_steps, step_for}

-- a width is above 0 and in range
abbrev is_width : ℕ → Bool
is_width step = nat_lt 0 step && nat_le step limit

first_true : (a b : Bool) → (a && b) ≡ true → a ≡ true
first_true true b is = refl
first_true false b is = is

second_true : (a b : Bool) → (a && b) ≡ true → b ≡ true
second_true true b is = is
second_true false b is = cc

-- what is found is one of the elements
found_is : (p q : ℕ → Bool) (xs : List ℕ) → list_all q xs ≡ true → IfSome (find p xs) (λ x. q x ≡ true)
found_is p q [] all = tt
found_is p q (x ∷ xs) all =
    cond_both (p x) (Some x) (find p xs) (λ o. IfSome o (λ y. q y ≡ true)) (λ _. first_true (q x) (list_all q xs) all)
    (λ _. found_is p q xs (second_true (q x) (list_all q xs) all))

is_above : (step : ℕ) → is_width step ≡ true → 0 < step
is_above step is = let above : nat_lt 0 step ≡ true = first_true (nat_lt 0 step) (nat_le step limit) is in grind (arith, nat_tests)

is_within : (step : ℕ) → is_width step ≡ true → step ≤ limit
is_within step is = let within : nat_le step limit ≡ true = second_true (nat_lt 0 step) (nat_le step limit) is in grind (arith, nat_tests)

-- the width that is found is above 0 and in range
pub above_zero : (span maxbins : ℕ) → IfSome (step_for span maxbins) (λ step. 0 < step)
above_zero span maxbins =
    IfSome_then (step_for span maxbins) (found_is (λ step. nat_le span (maxbins * step)) is_width bin_steps refl) is_above

pub within_range : (span maxbins : ℕ) → IfSome (step_for span maxbins) (λ step. step ≤ limit)
within_range span maxbins =
    IfSome_then (step_for span maxbins) (found_is (λ step. nat_le span (maxbins * step)) is_width bin_steps refl) is_within

-- a product that is cut at the greatest count is as good for a span that is within it
pub cut_product : (span product most : ℕ) → span ≤ most → nat_le span (min product most) ≡ nat_le span product
cut_product span product most within = grind (arith, nat_tests)
