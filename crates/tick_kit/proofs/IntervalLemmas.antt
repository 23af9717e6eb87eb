-- Intervals: what fits, and the rows of the table that are left.
use Rattle.std.proofs.Common.{◌≡◌, ℕ, suc, ◌*◌, ◌^◌, ◌+◌, ◌<◌, ◌≤◌, Bool, true, false, not, ◌&&◌, ◌||◌, nat_lt, nat_le, if◌then◌else◌, List, [], ◌∷◌}
use Rattle.std.proofs.Common.{Some, refl, ap, ◌∙◌, ⊎_elim, arith}
use Rattle.std.specs.List.{list_all}
use Rattle.std.proofs.lemmas.Bool.{cases_lt, and_parts, leb-true}
use Rattle.std.proofs.Math.Nat.{mul-le-mul_right}
use Rattle.fixed_num.specs.Number.{limit}
use Rattle.case_table.specs.declared.unit.Unit.{Unit}
use Rattle.case_table.specs.declared.unit.Unit.TheVariants.{Week}
use Rattle.tick_kit.specs.declared.intervals.Interval.{Interval}
use Rattle.tick_kit.specs.Steps.{IsStep, one_times, two_times, five_times, least, spaced}
use Rattle.tick_kit.specs.Intervals.{is_below, is_nearer_first, nearest_interval, one_second, longer_intervals}
use Rattle.tick_kit.proofs.StepLawLemmas.{spaced_is}
use Rattle.std.proofs.lemmas.Nat.{mul-le}
use Rattle.std.proofs.lemmas.Bool.Decides.{nat_tests}

pub bound_fits : (product unit : ℕ) → product ≤ 3 * 10 ^ 20 → unit ≤ 10 ^ 9 → product * (unit * unit) ≤ 3 * 10 ^ 20 * (10 ^ 9 * 10 ^ 9)
bound_fits product unit h k = mul-le product (unit * unit) (3 * 10 ^ 20) (10 ^ 9 * 10 ^ 9) h (mul-le unit unit (10 ^ 9) (10 ^ 9) k k)

-- a square that is too great for a number of 128 bits is not below the bound
pub not_below : (square product unit : ℕ) → product ≤ 3 * 10 ^ 20 → unit ≤ 10 ^ 9 → 2 ^ 128 ≤ square
    → false ≡ nat_lt square (product * (unit * unit))
not_below square product unit h k big =
    let bound = bound_fits product unit h k in grind (arith, nat_tests)

pub too_great : (n : ℕ) → ¬ (n < 2 ^ 128) → 2 ^ 128 ≤ n
too_great n h = ⊎_elim (λ (l : n < 2 ^ 128). absurd (h l)) (λ (l : 2 ^ 128 ≤ n). l) (cases_lt n (2 ^ 128))

-- ---- what holds of each interval

-- what passes for each interval of a table passes for the one that is chosen
nearest_passes : (p : Interval → Bool) (span count : ℕ) (a : Interval) (longer : List Interval) → p a ≡ true → list_all p longer ≡ true
    → p (nearest_interval span count a longer) ≡ true
nearest_passes p span count a [] here all = here
nearest_passes p span count a (b ∷ longer) here all =
    let parts = and_parts (p b) (list_all p longer) all in
    chosen (is_below span count b.length) (is_nearer_first span count a.length b.length) (nearest_passes p span count b longer parts.0 parts.1) parts.0
  where
    chosen : (below first : Bool) → p (nearest_interval span count b longer) ≡ true → p b ≡ true
        → p (if below then (if first then a else b) else nearest_interval span count b longer) ≡ true
    chosen true true later next = here
    chosen true false later next = next
    chosen false first later next = later

abbrev is_week : Unit → Bool
is_week Week = true
is_week _ = false

-- there is one unit or more, and just one week
abbrev is_counted : Interval → Bool
is_counted i = nat_le 1 i.count && (nat_le i.count 1 || not (is_week i.unit))

middle_is_counted : (span count : ℕ) → is_counted (nearest_interval span count one_second longer_intervals) ≡ true
middle_is_counted span count = nearest_passes is_counted span count one_second longer_intervals refl refl

pub middle_some : (span count : ℕ) → 1 ≤ (nearest_interval span count one_second longer_intervals).count
middle_some span count = some_counted (nearest_interval span count one_second longer_intervals) (middle_is_counted span count)
  where
    some_counted : (i : Interval) → is_counted i ≡ true → 1 ≤ i.count
    some_counted i h = leb-true 1 i.count (and_parts (nat_le 1 i.count) (nat_le i.count 1 || not (is_week i.unit)) h).0

pub middle_weeks : (span count : ℕ) → (nearest_interval span count one_second longer_intervals).unit ≡ Week
    → (nearest_interval span count one_second longer_intervals).count ≡ 1
middle_weeks span count e = one_week (nearest_interval span count one_second longer_intervals) (middle_is_counted span count) e
  where
    single : (few week : Bool) → (few || not week) ≡ true → week ≡ true → few ≡ true
    single true week h e = refl
    single false true h e = h
    single false false h e = e

    one_week : (i : Interval) → is_counted i ≡ true → i.unit ≡ Week → i.count ≡ 1
    one_week i h e =
        let parts = and_parts (nat_le 1 i.count) (nat_le i.count 1 || not (is_week i.unit)) h in
        let some = leb-true 1 i.count parts.0 in
        let few = leb-true i.count 1 (single (nat_le i.count 1) (is_week i.unit) parts.1 (ap is_week e)) in
        omega (arith, some, few)

-- ---- steps in milliseconds and in years

-- a step is not far above the spacing
step_bound : (span count step : ℕ) → 0 < count → IsStep span count step → step * count ≤ 2 * span + count
step_bound span count step some (one_times k e b) = let low = b.0 in rw e (omega (arith, low))
step_bound span count step some (two_times k e b) = let low = b.0 in rw e (omega (arith, low))
step_bound span count step some (five_times k e b) = let low = b.0 in rw e (omega (arith, low))
step_bound span count step some (least e b) = rw e (omega arith)

cancel : (step count most : ℕ) → 0 < count → step * count ≤ most * count → step ≤ most
cancel step count most some h =
    ⊎_elim
    (λ (l : most < step). let up : suc most ≤ step = omega arith in absurd (omega (arith, h, mul-le-mul_right count up)))
    (λ (l : step ≤ most). l)
    (cases_lt most step)

-- it is not far above the greatest spacing
pub spaced_bound : (span count step : ℕ) → span ≤ 2 * limit → 0 < count → span ≤ 2 * 10 ^ 12 * count → Some step ≡ spaced span count
    → step ≤ 4 * 10 ^ 12 + 1
spaced_bound span count step most some near is =
    let found = spaced_is span count most some in
    let same : Some step ≡ Some found.0 = is ∙ found.1 in
    let e : step ≡ found.0 = cc in
    let bound = step_bound span count found.0 some found.2 in
    let upto : found.0 * count ≤ (4 * 10 ^ 12 + 1) * count = omega (arith, bound, near) in
    let small = cancel found.0 count (4 * 10 ^ 12 + 1) some upto in
    omega (arith, small, e)
