use Rattle.std.proofs.Common.{map, pos, sym, subst}
use Rattle.expr_eval.specs.Answers.{Evaluates}
use Rattle.vega_drawing.specs.inner.Framed.{cells_seen}
use Rattle.vega_drawing.specs.inner.Kept.{scale_seen}
use Rattle.vega_drawing.specs.inner.Levels.{values_over}
use Rattle.vega_drawing.specs.inner.Topped.{found_on_top, names_on_top, top_seen}
use Rattle.vega_drawing.proofs.TopLemmas.{top_columns, top_is_grid, top_is_plot}
use Rattle.vega_drawing.proofs.drawing.draw_top.Goals as goal

pub draw_grid-requires-clause-columns : goal.draw_grid-requires-clause-columns
draw_grid-requires-clause-columns g c = top_columns c.args.g.now c.requires.top.kept c.in-Some.layout c.in-Some.is

pub returns-in-Some : goal.returns-in-Some
returns-in-Some g c =
    let lists = g.M.MarkItems.lists c.args.maker.now in
    let values = values_over c.args.values.stores.now c.args.values.levels.now in
    subst (Evaluates c.draw_grid.result)
    (sym (top_is_grid (g.M.MarkItems.items c.args.maker.now) c.args.g.now (found_on_top lists values c.args.facts.now)
    (top_seen (names_on_top lists values) (cells_seen c.args.cells) (map scale_seen c.args.scales.now) (pos 0) (pos 0)) c.in-Some.layout c.in-Some.is))
    c.draw_grid.ensures

pub returns-in-None : goal.returns-in-None
returns-in-None g c =
    let lists = g.M.MarkItems.lists c.args.maker.now in
    let values = values_over c.args.values.stores.now c.args.values.levels.now in
    subst (Evaluates c.draw_plot.result)
    (sym (top_is_plot (g.M.MarkItems.items c.args.maker.now) c.args.g.now (found_on_top lists values c.args.facts.now)
    (top_seen (names_on_top lists values) (cells_seen c.args.cells) (map scale_seen c.args.scales.now) (pos 0) (pos 0)) c.in-None.is))
    c.draw_plot.ensures
