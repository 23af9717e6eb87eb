use Rattle.std.proofs.Common.{All, map, sym, ap, ◌∙◌, subst}
use Rattle.std.proofs.lemmas.List.Elements.{All-nil}
use Rattle.expr_eval.specs.Answers.{Evaluates}
use Rattle.scale_kit.specs.Scale.{AreScales}
use Rattle.vega_guides.specs.Shown.{IsAxis}
use Rattle.vega_drawing.specs.Scales.{axes_here}
use Rattle.vega_drawing.specs.inner.Framed.{cells_seen}
use Rattle.vega_drawing.specs.inner.Kept.{axis_seen, scale_seen, AreKeptAxes}
use Rattle.vega_drawing.specs.inner.Levels.{values_over}
use Rattle.vega_drawing.specs.inner.Topped.{drawn_grid, found_on_top, names_on_top, top_of, top_seen, with_axes}
use Rattle.vega_drawing.proofs.TopLemmas.{top_kept}
use Rattle.vega_drawing.proofs.drawing.draw_grid.Goals as goal

pub draw_axes-requires-clause-set : goal.draw_axes-requires-clause-set
draw_axes-requires-clause-set g c = c.in_ok-indexed.ensures ∙ c.in_ok-set.ensures.value

pub draw_axes-requires-clause-scales : goal.draw_axes-requires-clause-scales
draw_axes-requires-clause-scales g c = subst AreScales (sym c.in_ok-indexed.ensures) c.in_ok-set.ensures.sound

pub and_axes-requires-clause-outer : goal.and_axes-requires-clause-outer
and_axes-requires-clause-outer g c = All-nil _

pub and_axes-requires-clause-axes : goal.and_axes-requires-clause-axes
and_axes-requires-clause-axes g c = subst (All IsAxis) (sym c.axes_in.ensures) (top_kept c.args.top.now.g.now c.requires.top.kept).axes

pub draw_axes-requires-clause-axes : goal.draw_axes-requires-clause-axes
draw_axes-requires-clause-axes g c = subst AreKeptAxes (sym c.as_slice.ensures) c.in_ok-axes.ensures.kept

pub returns : goal.returns
returns g c =
    let items = g.M.MarkItems.items c.args.maker.now in
    let lists = g.M.MarkItems.lists c.args.maker.now in
    let values = values_over c.args.top.now.values.stores.now c.args.top.now.values.levels.now in
    let names = names_on_top lists values in
    let found = found_on_top lists values c.args.top.now.facts.now in
    let cells = cells_seen c.args.top.now.cells in
    let scales = map scale_seen c.args.top.now.scales.now in
    subst (λ size. Evaluates c.draw_axes.result (drawn_grid items c.args.top.now.g.now c.args.layout.now found
    (with_axes (axes_here scales (top_of c.args.top.now.g.now).object.axes) (top_seen names cells scales size size)))) c.no_length-size.ensures.value
    (subst (λ axes. Evaluates c.draw_axes.result (drawn_grid items c.args.top.now.g.now c.args.layout.now found
    (with_axes axes (top_seen names cells scales c.no_length-size.result c.no_length-size.result))))
    (ap (map axis_seen) c.as_slice.ensures ∙ c.in_ok-axes.ensures.value ∙ ap (axes_here scales) c.axes_in.ensures) c.draw_axes.ensures)
