use Rattle.std.proofs.Common.{◌∙◌, subst}
use Rattle.expr_eval.specs.Answers.{Evaluates}
use Rattle.vega_spec.specs.declared.spec.VgMark.{out-VgMark}
use Rattle.vega_drawing.specs.inner.Framed.{frame_seen, found_in_frame}
use Rattle.vega_drawing.proofs.SetLemmas.{sized_frame}
use Rattle.vega_drawing.proofs.ViewLemmas.{plot_sized, with_sizes}
use Rattle.vega_drawing.proofs.grids.inner_plot_view.Goals as goal

pub plot_view-requires-clause-frame : goal.plot_view-requires-clause-frame
plot_view-requires-clause-frame g c =
    sized_frame c.args.scaled.now _ _ c.size_cut-width.result c.size_cut-height.result c.requires.frame c.in_ok-indexed.ensures
    c.in_ok-set.ensures.value c.in_ok-set.ensures.sound c.size_cut-width.ensures.pixel c.size_cut-height.ensures.pixel

pub returns-clause-value : goal.returns-clause-value
returns-clause-value g c =
    let items = g.M.MarkItems.items c.args.maker.now in
    let lists = g.M.MarkItems.lists c.args.maker.now in
    let frame = frame_seen lists c.args.scaled.now in
    let found = found_in_frame lists c.args.scaled.now 0 c.args.found.now in
    let m = out-VgMark c.args.mark.now in
    subst (Evaluates c.plot_view.result)
    ((λ i. plot_sized items frame c.args.numbers.unit c.args.numbers.number m found
    (record frame { width = c.size_cut-width.ensures.value i; height = c.size_cut-height.ensures.value i }))
    ∙ with_sizes items frame c.args.numbers.unit c.args.numbers.number m found c.in-Ok.width
    c.in-Ok-encoded_number.height c.in-Ok.ensures c.in-Ok-encoded_number.ensures)
    c.plot_view.ensures.value
