use Rattle.std.proofs.Common.{◌≡◌, ◌≤◌, ◌+◌, ◌++◌, map}
use Rattle.std.specs.Prelude.{zip}
use Rattle.vega_events.specs.Events.{store_after}
use Rattle.vega_events.specs.Premises.{FieldsAreTold, count_all}
use Rattle.vega_events.proofs.events.stores_in.Given as goal

abbrev pub invariant-loop-v : goal.invariant-loop-v
invariant-loop-v g l =
    let change = store_after l.here.plots.now l.here.scales.now (g.R.UnitRows.rows l.rows) l.here.event.now (l.here.index, l.here.panel.now) in
    (l.out ++ map (λ p. change p.0 p.1) (zip l.v-iterator.a.rest.now l.v-iterator.b.rest.now)
    ≡ map (λ p. change p.0 p.1) (zip l.selections l.stores))
    × FieldsAreTold (g.R.UnitRows.tells l.rows) l.v-iterator.a.rest.now
    × (l.initial.steps ≤ l.steps) × (l.steps + count_all l.v-iterator.a.rest.now ≤ l.initial.steps + count_all l.selections)
