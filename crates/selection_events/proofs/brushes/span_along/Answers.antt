use Rattle.std.proofs.Common.{find, ap, ◌∙◌}
use Rattle.std.specs.Str.{bytes_eq}
use Rattle.cell_value.specs.declared.state.Extent.{Extent}
use Rattle.selection_events.specs.Brushes.{extent_span}
use Rattle.selection_events.proofs.brushes.span_along.Goals as goal

pub returns : goal.returns
returns g c =
    c.span_of.ensures
    ∙ ap (extent_span (g.S.DragScales.inverts c.args.scales.now) c.args.index c.args.store.now c.args.size c.args.channel.now)
    (c.extent_of-e.ensures ∙ ap (find (λ (e : Extent). bytes_eq e.channel c.args.channel.now)) c.as_slice.ensures)
