use Rattle.std.proofs.Common.{map}
use Rattle.cell_value.specs.State.{dataset_of}
use Rattle.vega_lists.specs.Held.{scope_read}
use Rattle.vega_signals.specs.inner.Places.{number_under}
use Rattle.vega_signals.proofs.PlaceLemmas.{all_placed}
use Rattle.vega_signals.proofs.OrderLaw.{settled_found}
use Rattle.vega_signals.proofs.rounds.settled_in_order.Goals as goal

pub returns : goal.returns
returns g c =
    let object = c.args.object.now in
    settled_found (map dataset_of object.sources.now) (scope_read (g.O.ListReader.named object.lists.now)) (g.P.ParamReader.values object.outer.now)
    object.given.now object.signals.now object.sets.now c.args.most c.requires.most (number_under c.in_ok-order.order.places)
    (all_placed (number_under c.in_ok-order.order.places) c.args.most object.signals.now object.sets.now c.in_ok-all_stand.field-0 c.in_ok-all_stand.ensures
    c.if-not-branch.false) c.settle_along.result c.settle_along.ensures
