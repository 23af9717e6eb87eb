use Rattle.std.proofs.Common.{arith}
use Rattle.std.proofs.lemmas.Int.{ints}
use Rattle.plain_groups.proofs.NumberLemmas.{sum_left}
use Rattle.plain_groups.proofs.numbers.sum_of.Goals as goal

pub loop-number-preserved : goal.loop-number-preserved
loop-number-preserved c =
    let left = sum_left c.args.numbers.now c.loop-number.number-index c.number-item.result c.loop-number-test.true c.number-item.is in
    record { rest = omega (arith, ints, left, c.loop-number.invariant.rest); bound = omega (arith, ints, c.loop-number.invariant.bound) }
