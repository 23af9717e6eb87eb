use Rattle.std.proofs.Common.{◌+◌, ◌++◌, sym, ap, ◌∙◌, subst}
use Rattle.expr_eval.specs.Answers.{Evaluates}
use Rattle.vega_spec.specs.declared.spec.Group.{out-Group}
use Rattle.vega_copies.specs.inner.Outlined.{marks_from, marks_in, object_numbered, AreFew}
use Rattle.vega_copies.specs.inner.Results.{result_map}
use Rattle.vega_drawing.specs.Guides.{axes_over}
use Rattle.vega_drawing.specs.Insides.{Inside}
use Rattle.vega_drawing.specs.inner.Drawn.{inside_seen, MayShow}
use Rattle.vega_drawing.specs.inner.Framed.{frame_seen, found_in_frame}
use Rattle.vega_drawing.specs.inner.Plotted.{standing_in}
use Rattle.vega_drawing.proofs.PlotLemmas.{one_more, stands_behind}
use Rattle.vega_drawing.proofs.plots.draw_inside.Goals as goal

pub draw_all-requires-clause-marks : goal.draw_all-requires-clause-marks
draw_all-requires-clause-marks g c = subst (λ marks. MayShow marks c.args.found.now) (sym c.marks_in.ensures) c.requires.marks

pub draw_all-requires-clause-few : goal.draw_all-requires-clause-few
draw_all-requires-clause-few g c =
    subst (AreFew c.args.numbers.unit (c.args.numbers.number + 1)) (sym c.marks_in.ensures)
    (subst (λ n. AreFew c.args.numbers.unit n (marks_in (out-Group c.args.group.now))) (sym (one_more c.args.numbers.number)) c.requires.few)

pub returns-clause-value : goal.returns-clause-value
returns-clause-value g c =
    let items = g.M.MarkItems.items c.args.maker.now in
    let lists = g.M.MarkItems.lists c.args.maker.now in
    let frame = frame_seen lists c.args.frame.now in
    let found = found_in_frame lists c.args.frame.now 0 c.args.found.now in
    let o = object_numbered c.args.numbers.number (out-Group c.args.group.now) in
    subst (λ marks. Evaluates (result_map (λ done. inside_seen c.draw_all.new.out) c.draw_all.result) (standing_in items o marks found frame))
    (λ i. marks_from c.args.numbers.unit (one_more c.args.numbers.number i) (c.marks_in.ensures i))
    (stands_behind frame o
    (record { axes = c.push_all_shown.new.out; legends = c.args.out.now.legends; items = c.args.out.now.items })
    c.draw_guides.new.out c.draw_all.new.out _ c.draw_all.result
    (c.in_ok-push_all_shown.ensures.value
    ∙ ap (λ (i : Inside). i.axes ++ axes_over frame.width frame.height frame.axes) c.requires.empty)
    (ap (λ (i : Inside). i.legends) c.requires.empty) (ap (λ (i : Inside). i.items) c.requires.empty) c.in_ok-draw_guides.ensures.value
    c.draw_all.ensures.value)
