use Rattle.std.proofs.Common.{rules, ◌≡◌}
use Rattle.selection_events.specs.Places.{units_in_panel}
use Rattle.vega_events.proofs.HitLemmas.{told_in_panel}
use Rattle.vega_events.proofs.events.store_after.Goals as goal

pub changed-requires-clause-told : goal.changed-requires-clause-told
changed-requires-clause-told g c =
    let here = c.args.here.now in
    let units : c.as_slice-units.result.now ≡ units_in_panel here.plots.now c.args.v.now.selection here.panel.now = search rules in
    told_in_panel (g.R.UnitRows.tells c.args.rows.now) here.plots.now c.args.v.now here.panel.now c.as_slice-units.result.now units
    c.requires.told
