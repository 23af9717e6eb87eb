use Rattle.std.proofs.Common.{arith, ap, ◌∙◌, IfOk, ◌≡◌, List, ℤ, ℕ, Result, Ok, Err, pos, ◌+ℤ◌, ◌≤ℤ◌, ◌*ℤ◌}
use Rattle.std.proofs.lemmas.Int.{ints}
use Rattle.tick_kit.specs.Ticks.{count_apart}
use Rattle.tick_kit.proofs.RangeLemmas.{ceiled_above, ceiled_near}
use Rattle.tick_kit.proofs.TickLemmas.{no_multiple, multiples_are, counted}
use Rattle.tick_kit.proofs.multiples.multiples_in.Goals as goal

pub returns-in_default : goal.returns-in_default
returns-in_default c =
    c.new.ensures
    ∙ no_multiple c.args.lo c.args.hi c.args.step c.requires.some c.requires.ordered c.millionths.ensures.in_range.0
    c.millionths-2.ensures.in_range.1 c.in_default.ensures

pub numbers_apart-requires-clause-low : goal.numbers_apart-requires-clause-low
numbers_apart-requires-clause-low c =
    let is = c.in-Some.ensures.1 in
    let above = ceiled_above c.args.lo c.args.step c.requires.some in
    let low = c.millionths.ensures.in_range.0 in
    omega (arith, ints, is, above, low)

pub numbers_apart-requires-clause-high : goal.numbers_apart-requires-clause-high
numbers_apart-requires-clause-high c =
    let is = c.in-Some.ensures.1 in
    let near = ceiled_near c.args.lo c.args.step c.requires.some in
    let order = c.requires.ordered in
    let first : c.in-Some.first ≤ℤ (c.args.hi +ℤ c.args.step) = omega (arith, ints, is, near, order) in
    let many = counted c.args.step c.in-Some.first c.args.hi c.requires.some first in
    let product : pos c.count_apart.result *ℤ c.args.step ≡ pos (count_apart c.args.step c.in-Some.first c.args.hi) *ℤ c.args.step =
    ap (λ (n : ℕ). pos n *ℤ c.args.step) c.count_apart.ensures in
    let high = c.millionths-2.ensures.in_range.1 in
    omega (arith, ints, many, product, high)

same_ok : {E : Type 0} (r : Result (List ℤ) E) (x y : List ℤ) → x ≡ y → IfOk r (λ ticks. ticks ≡ x) → IfOk r (λ ticks. ticks ≡ y)
same_ok (Ok ticks) x y e h = h ∙ e
same_ok (Err fault) x y e h = tt

pub returns : goal.returns
returns c =
    same_ok c.numbers_apart.result _ _
    (multiples_are c.args.lo c.args.hi c.args.step c.in-Some.first c.count_apart.result c.in-Some.ensures.1 c.count_apart.ensures) c.numbers_apart.ensures
