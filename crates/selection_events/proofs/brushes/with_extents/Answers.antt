use Rattle.std.proofs.Common.{ℕ, sym, ap, ◌∙◌}
use Rattle.std.specs.Option.{option_map}
use Rattle.scene_tree.specs.declared.scene.Panel.{Panel}
use Rattle.selection_events.specs.Brushes.{brushed_at}
use Rattle.selection_events.proofs.BrushLemmas.{brushed_there}
use Rattle.selection_events.proofs.brushes.with_extents.Goals as goal

pub returns-in-Some : goal.returns-in-Some
returns-in-Some g c =
    brushed_there c.args.plots.now (g.S.DragScales.inverts c.args.scales.now) c.args.store.now c.args.panels c.in-Some.index c.brushed_with.result
    (sym c.in-Some.is ∙ c.in_ok-index.ensures
    ∙ ap (λ panels. option_map (λ (p : ℕ × Panel). p.0) (brushed_at c.args.plots.now panels c.args.store.now)) c.as_slice.ensures) c.brushed_with.ensures
