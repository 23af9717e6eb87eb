use Rattle.std.proofs.Common.{◌≡◌, ◌+◌, ◌-◌, ◌<◌, ◌≤◌, length, sym, subst, arith}
use Rattle.cell_value.specs.declared.state.Named.{Named}
use Rattle.vega_lists.specs.declared.held.RowsIn.TheVariants.{Source}
use Rattle.vega_lists.specs.inner.Places.{IsPut}
use Rattle.vega_lists.proofs.PlaceLemmas.{ArePlacesFrom, one_source}
use Rattle.vega_lists.proofs.lists.places_of.Goals as goal

pub loop-at-preserved : goal.loop-at-preserved
loop-at-preserved c =
    let positive = c.loop-at-test.true in
    let within : c.loop-at.at ≤ length c.args.sources.now = c.loop-at.auto.at in
    let before : c.loop-at.at - 1 < length c.args.sources.now = omega (arith, positive, within) in
    let again : c.loop-at.at ≡ c.loop-at.at - 1 + 1 = omega (arith, positive) in
    one_source c.args.sources.now (c.loop-at.at - 1) c.index-sources-at.result c.loop-at.places c.put_place.new.places before c.index-sources-at.is
    (subst (λ i. ArePlacesFrom c.args.sources.now i c.loop-at.places) again c.loop-at.invariant)
    (subst (λ (source : Named). IsPut c.loop-at.places source.name (Source (c.loop-at.at - 1)) c.put_place.new.places)
    (sym c.index-sources-at.is) c.in_ok-put_place.ensures)
