-- Where the bin of a number begins.
use Rattle.std.proofs.Common.{◌≡◌, ◌∙◌, sym, ◌/◌, ◌<◌, ◌^◌, ℤ, pos, negsuc, ◌+ℤ◌, ◌-ℤ◌, ◌≤ℤ◌, ◌<ℤ◌, to_z, of_z, subst, arith}
use Rattle.std.specs.Int.{w128, int_rem_euclid}
use Rattle.std.specs.Int.Signed.{mag}
use Rattle.std.proofs.lemmas.Int.{ints, to_z-of_z}
use Rattle.fixed_num.specs.Number.{IsNumber, floored, floor_quotient}
use Rattle.fixed_num.proofs.RoundingLemmas.{floored_from_remainder}
use Rattle.std.proofs.Math.Nat.{div-add-mod', suc-mul}

moved : (v start rest whole : ℤ) → (v -ℤ start) -ℤ rest ≡ whole → v -ℤ rest ≡ start +ℤ whole
moved v start rest whole is = omega (arith, ints)

-- a number less what is left of it over whole widths from the start
pub less_rest : (start step v : ℤ) → pos 0 <ℤ step → v -ℤ int_rem_euclid (v -ℤ start) step ≡ start +ℤ floored (v -ℤ start) step
less_rest start step v above =
    moved v start (int_rem_euclid (v -ℤ start) step) (floored (v -ℤ start) step) (floored_from_remainder (v -ℤ start) step above)

floored_above_zero : (m s : ℤ) → pos 0 ≤ℤ m → pos 0 ≤ℤ floored m s
unfolding floored floor_quotient
floored_above_zero (pos n) (pos s) above = omega (arith, ints)
floored_above_zero (pos n) (negsuc s) above = above
floored_above_zero (negsuc n) s above = absurd (omega (arith, ints))

-- it lies between the start and the number
pub behind_start : (start step v : ℤ) → start ≤ℤ v → start ≤ℤ (start +ℤ floored (v -ℤ start) step)
behind_start start step v from =
    let above : pos 0 ≤ℤ (v -ℤ start) = omega (arith, ints) in
    let whole = floored_above_zero (v -ℤ start) step above in
    omega (arith, ints, whole)

floored_below : (m s : ℤ) → pos 0 <ℤ s → floored m s ≤ℤ m
unfolding floored floor_quotient
floored_below (pos n) (pos s) above = omega (arith, ints, div-add-mod' n s)
floored_below (negsuc n) (pos s) above = omega (arith, ints, div-add-mod' n s, suc-mul (n / s) s)
floored_below m (negsuc s) above = absurd (omega (arith, ints))

pub before_number : (start step v : ℤ) → pos 0 <ℤ step → (start +ℤ floored (v -ℤ start) step) ≤ℤ v
before_number start step v above = let below = floored_below (v -ℤ start) step above in omega (arith, ints, below)

-- what lies between two numbers is small
small_between : (low high t : ℤ) → IsNumber low → IsNumber high → low ≤ℤ t → t ≤ℤ high → mag t < 2 ^ 127
small_between low high (pos n) from to l h = omega (arith, ints, from, to, l, h)
small_between low high (negsuc n) from to l h = omega (arith, ints, from, to, l, h)

-- the difference of two numbers of 128 bits that is small enough for them
difference : (m r x : ℤ) → mag m < 2 ^ 127 → mag r < 2 ^ 127 → mag (m -ℤ r) < 2 ^ 127
    → x ≡ to_z w128 (of_z w128 (to_z w128 (of_z w128 m) -ℤ to_z w128 (of_z w128 r))) → x ≡ m -ℤ r
difference m r x f g h is =
    is ∙ (λ i. to_z w128 (of_z w128 (to_z-of_z w128 m (record { sfits = f }) i -ℤ to_z-of_z w128 r (record { sfits = g }) i)))
    ∙ to_z-of_z w128 (m -ℤ r) (record { sfits = h })

-- a number less what is left of it, in 128 bits
pub less_rest_in_bits : (start step v m r x : ℤ) → pos 0 <ℤ step → start ≤ℤ v → IsNumber start → IsNumber v
    → m ≡ v → r ≡ int_rem_euclid (v -ℤ start) step → mag m < 2 ^ 127 → mag r < 2 ^ 127
    → x ≡ to_z w128 (of_z w128 (to_z w128 (of_z w128 m) -ℤ to_z w128 (of_z w128 r))) → x ≡ start +ℤ floored (v -ℤ start) step
less_rest_in_bits start step v m r x above from first last p q f g is =
    let same : m -ℤ r ≡ start +ℤ floored (v -ℤ start) step = (λ i. p i -ℤ q i) ∙ less_rest start step v above in
    let small : mag (start +ℤ floored (v -ℤ start) step) < 2 ^ 127 =
    small_between start v _ first last (behind_start start step v from) (before_number start step v above) in
    let fits : mag (m -ℤ r) < 2 ^ 127 = subst (λ t. mag t < 2 ^ 127) (sym same) small in
    difference m r x f g fits is ∙ same
