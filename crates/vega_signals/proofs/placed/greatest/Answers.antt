use Rattle.vega_signals.specs.inner.Places.{number_under}
use Rattle.vega_signals.proofs.PlaceLemmas.{greatest_more}
use Rattle.vega_signals.proofs.placed.greatest.Goals as goal

pub loop-name-preserved : goal.loop-name-preserved
loop-name-preserved c =
    greatest_more (number_under c.args.places.now) (λ name. name.now) c.args.names.now c.loop-name.name-index _ c.loop-name.most _ _ _
    c.loop-name-test.true c.number_under.ensures c.greater-most.ensures c.loop-name.invariant
