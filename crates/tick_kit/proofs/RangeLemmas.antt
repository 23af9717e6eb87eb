-- Multiples beside a number.
use Rattle.std.proofs.Common.{◌/◌, ℤ, pos, negsuc, neg_ℤ, ◌≤ℤ◌, ◌<ℤ◌, ◌+ℤ◌, arith}
use Rattle.std.proofs.lemmas.Int.{ints}
use Rattle.std.proofs.Math.Nat.{div-add-mod', suc-mul}
use Rattle.fixed_num.proofs.LawLemmas.{floored_is_multiple}
use Rattle.fixed_num.specs.Number.{floored, ceiled, floor_quotient}

-- a multiple below a number, and one above it
pub floored_below : (m s : ℤ) → pos 0 <ℤ s → floored m s ≤ℤ m
unfolding floored floor_quotient
floored_below (pos n) (pos s) h = omega (arith, ints, div-add-mod' n s)
floored_below (negsuc n) (pos s) h = omega (arith, ints, div-add-mod' n s, suc-mul (n / s) s)
floored_below m (negsuc s) h = absurd (omega (arith, ints))

pub ceiled_above : (m s : ℤ) → pos 0 <ℤ s → m ≤ℤ ceiled m s
unfolding ceiled
ceiled_above m s h = omega (arith, ints, floored_below (neg_ℤ m) s h)

-- it is less than a step away
pub ceiled_near : (m s : ℤ) → pos 0 <ℤ s → ceiled m s <ℤ (m +ℤ s)
unfolding ceiled
ceiled_near m s h =
    let near = (floored_is_multiple (neg_ℤ m) s h).nearest in omega (arith, ints, near)
