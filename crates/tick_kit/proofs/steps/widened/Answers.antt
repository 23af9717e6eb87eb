use Rattle.std.proofs.Common.{arith}
use Rattle.std.proofs.lemmas.Int.{ints}
use Rattle.tick_kit.proofs.RangeLemmas.{floored_below, ceiled_above}
use Rattle.tick_kit.proofs.steps.widened.Goals as goal

pub returns-clause-ordered : goal.returns-clause-ordered
returns-clause-ordered c =
    let low = floored_below c.args.low c.in_ok-step.step c.in_ok-step.ensures.positive in
    let high = ceiled_above c.args.high c.in_ok-step.step c.in_ok-step.ensures.positive in
    omega (arith, ints, c.in_ok-floor_to.ensures.1, c.in_ok-ceil_to.ensures.1)
