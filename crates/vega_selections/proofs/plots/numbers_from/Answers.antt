use Rattle.vega_selections.proofs.NumberLemmas.{more_numbers}
use Rattle.vega_selections.proofs.plots.numbers_from.Goals as goal

pub loop-at-preserved : goal.loop-at-preserved
loop-at-preserved c =
    more_numbers c.args.unit c.args.size c.loop-at.at c.in_ok-sum.field-0 c.loop-at.units c.push.new.self _ c.loop-at-test.true c.in_ok-sum.ensures
    c.in_ok-push.ensures.ok c.loop-at.invariant
