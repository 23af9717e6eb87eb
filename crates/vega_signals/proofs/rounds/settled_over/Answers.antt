use Rattle.std.proofs.Common.{◌<◌, map, arith}
use Rattle.cell_value.specs.State.{dataset_of}
use Rattle.vega_lists.specs.Held.{scope_read}
use Rattle.vega_signals.proofs.RoundLemmas.{settled_ok, counted_rounds}
use Rattle.vega_signals.proofs.rounds.settled_over.Goals as goal

pub settled_past-requires-clause-rounds : goal.settled_past-requires-clause-rounds
settled_past-requires-clause-rounds g c =
    let object = c.args.object.now in
    let more : 1 < c.rounds_after-rounds.result = omega (arith, c.if-rounds-gt-FEW.true) in
    counted_rounds (map dataset_of object.sources.now) (scope_read (g.O.ListReader.named object.lists.now)) (g.P.ParamReader.values object.outer.now)
    object.given.now object.signals.now object.sets.now c.in_ok-first.first c.rounds_after-rounds.result c.in_ok-first.ensures
    c.rounds_after-rounds.ensures.count more

pub returns-then-rounds-gt-FEW : goal.returns-then-rounds-gt-FEW
returns-then-rounds-gt-FEW g c =
    let object = c.args.object.now in
    settled_ok (map dataset_of object.sources.now) (scope_read (g.O.ListReader.named object.lists.now))
    (g.P.ParamReader.values object.outer.now) object.given.now
    object.signals.now object.sets.now c.in_ok-first.first c.rounds_after-rounds.result
    c.settled_past.result c.in_ok-first.ensures c.rounds_after-rounds.ensures.count
    c.settled_past.ensures

pub returns-else-rounds-gt-FEW : goal.returns-else-rounds-gt-FEW
returns-else-rounds-gt-FEW g c =
    let object = c.args.object.now in
    settled_ok (map dataset_of object.sources.now) (scope_read (g.O.ListReader.named object.lists.now))
    (g.P.ParamReader.values object.outer.now) object.given.now
    object.signals.now object.sets.now c.in_ok-first.first c.rounds_after-rounds.result
    c.settle.result c.in_ok-first.ensures c.rounds_after-rounds.ensures.count
    c.settle.ensures
