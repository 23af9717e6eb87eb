use Rattle.std.proofs.Common.{◌≡◌, ◌≤◌, ◌+◌, ◌++◌, drop, map}
use Rattle.vega_events.specs.Events.{read_in}
use Rattle.vega_events.proofs.clicks.entries_of.Given as goal

abbrev pub invariant-loop-field : goal.invariant-loop-field
invariant-loop-field g l =
    (l.entries ++ map (λ field. (field, read_in (g.R.UnitRows.rows l.rows) l.hit.unit l.hit.key field)) (drop l.field-index l.fields)
    ≡ map (λ field. (field, read_in (g.R.UnitRows.rows l.rows) l.hit.unit l.hit.key field)) l.fields)
    × (l.initial.steps ≤ l.steps) × (l.steps ≤ l.initial.steps + l.field-index)
