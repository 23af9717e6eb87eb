use Rattle.vl_building.specs.inner.Named.{shown}
use Rattle.vl_building.proofs.PlaceLemmas.{one_param}
use Rattle.vl_building.proofs.places.ParamNumbersListsUsize.list_of.Goals as goal

pub loop-number-preserved : goal.loop-number-preserved
loop-number-preserved c =
    one_param (shown c.args.named.now) c.args.place.now c.args.items.now c.loop-number.number c.loop-number.numbers c.push_param.new.out _
    c.loop-number-test.true c.in_ok-push_param.ensures c.loop-number.invariant
