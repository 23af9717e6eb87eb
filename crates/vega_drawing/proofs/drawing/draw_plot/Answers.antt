use Rattle.std.proofs.Common.{map, sym, ◌∙◌, subst}
use Rattle.expr_eval.specs.Answers.{Evaluates}
use Rattle.scale_kit.specs.Scale.{AreScales}
use Rattle.vega_drawing.specs.inner.Framed.{cells_seen}
use Rattle.vega_drawing.specs.inner.Kept.{scale_seen}
use Rattle.vega_drawing.specs.inner.Levels.{values_over}
use Rattle.vega_drawing.specs.inner.Topped.{found_on_top, names_on_top}
use Rattle.vega_drawing.proofs.TopLemmas.{sized_is, no_width, no_height}
use Rattle.vega_drawing.proofs.drawing.draw_plot.Goals as goal

pub draw_sized-requires-clause-set : goal.draw_sized-requires-clause-set
draw_sized-requires-clause-set g c = c.in_ok-indexed.ensures ∙ c.in_ok-set.ensures.value

pub draw_sized-requires-clause-scales : goal.draw_sized-requires-clause-scales
draw_sized-requires-clause-scales g c = subst AreScales (sym c.in_ok-indexed.ensures) c.in_ok-set.ensures.sound

pub returns : goal.returns
returns g c =
    let lists = g.M.MarkItems.lists c.args.maker.now in
    let values = values_over c.args.top.now.values.stores.now c.args.top.now.values.levels.now in
    subst (Evaluates c.draw_sized.result)
    (sym (sized_is (g.M.MarkItems.items c.args.maker.now) c.args.top.now.g.now (found_on_top lists values c.args.top.now.facts.now) (names_on_top lists values)
    (cells_seen c.args.top.now.cells) (map scale_seen c.args.top.now.scales.now) c.in-Ok.width c.in-Ok-size_of.height c.in-Ok.ensures.value
    c.in-Ok-size_of.ensures.value))
    c.draw_sized.ensures

pub returns-in-Err : goal.returns-in-Err
returns-in-Err g c =
    let lists = g.M.MarkItems.lists c.args.maker.now in
    let values = values_over c.args.top.now.values.stores.now c.args.top.now.values.levels.now in
    no_width (g.M.MarkItems.items c.args.maker.now) c.args.top.now.g.now (found_on_top lists values c.args.top.now.facts.now) (names_on_top lists values)
    (cells_seen c.args.top.now.cells) (map scale_seen c.args.top.now.scales.now) c.in-Err.error c.in-Err.ensures.value

pub returns-in-Err-size_of : goal.returns-in-Err-size_of
returns-in-Err-size_of g c =
    let lists = g.M.MarkItems.lists c.args.maker.now in
    let values = values_over c.args.top.now.values.stores.now c.args.top.now.values.levels.now in
    no_height (g.M.MarkItems.items c.args.maker.now) c.args.top.now.g.now (found_on_top lists values c.args.top.now.facts.now) (names_on_top lists values)
    (cells_seen c.args.top.now.cells) (map scale_seen c.args.top.now.scales.now) c.in-Ok.width c.in-Err-size_of.error c.in-Ok.ensures.value
    c.in-Err-size_of.ensures.value
