use Rattle.std.proofs.Common.{suc, sym, ap, ◌∙◌, subst}
use Rattle.expr_eval.specs.Answers.{Evaluates}
use Rattle.vega_spec.specs.declared.spec.Group.{out-Group}
use Rattle.vega_copies.specs.inner.Outlined.{marks_from, marks_in, marks_of, object_numbered}
use Rattle.vega_drawing.specs.inner.Drawn.{inside_seen}
use Rattle.vega_drawing.specs.inner.Framed.{frame_seen, found_in_frame}
use Rattle.vega_drawing.specs.inner.Plotted.{plot_round}
use Rattle.vega_drawing.proofs.PlotLemmas.{plot_is, plot_stops, first_alike}
use Rattle.vega_drawing.proofs.plots.plot_of.Goals as goal

pub returns-in-Ok-clause-value : goal.returns-in-Ok-clause-value
returns-in-Ok-clause-value g c =
    let items = g.M.MarkItems.items c.args.maker.now in
    let lists = g.M.MarkItems.lists c.args.maker.now in
    let frame = frame_seen lists c.args.frame.now in
    let found = found_in_frame lists c.args.frame.now 0 c.args.found.now in
    let group = out-Group c.args.group.now in
    let o = object_numbered c.args.numbers.number group in
    subst (Evaluates c.plot_round.result)
    (ap (λ first. plot_round o first frame (inside_seen c.in-Ok.inside))
    (first_alike c.args.numbers.unit (suc c.args.numbers.number) (marks_of (marks_in group)))
    ∙ sym (plot_is items o (marks_from c.args.numbers.unit (suc c.args.numbers.number) (marks_in group))
    found frame (inside_seen c.in-Ok.inside) c.in-Ok.ensures.value))
    c.plot_round.ensures.value

pub returns-in-Err-clause-value : goal.returns-in-Err-clause-value
returns-in-Err-clause-value g c =
    let items = g.M.MarkItems.items c.args.maker.now in
    let lists = g.M.MarkItems.lists c.args.maker.now in
    let group = out-Group c.args.group.now in
    plot_stops items (object_numbered c.args.numbers.number group) (marks_from c.args.numbers.unit (suc c.args.numbers.number) (marks_in group))
    (found_in_frame lists c.args.frame.now 0 c.args.found.now) (frame_seen lists c.args.frame.now) c.in-Err.error c.in-Err.ensures.value
