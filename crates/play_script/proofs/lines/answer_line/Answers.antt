use Rattle.std.proofs.Common.{sym, ◌∙◌}
use Rattle.play_script.proofs.Done.{silent_done, refused_done, line_done}
use Rattle.play_script.proofs.lines.answer_line.Goals as goal

pub returns-then-is_silent-clause-done : goal.returns-then-is_silent-clause-done
returns-then-is_silent-clause-done g c = λ line h.
    silent_done g.R.Lines.replies (g.R.Lines.state c.args.target.now) c.args.number line c.args.shown.now _ h (sym c.is_silent.ensures
    ∙ c.if-is_silent.true)

pub returns-then-shown-gt-MOST_LINE_BYTES-clause-done : goal.returns-then-shown-gt-MOST_LINE_BYTES-clause-done
returns-then-shown-gt-MOST_LINE_BYTES-clause-done g c = λ line h.
    refused_done g.R.Lines.replies (g.R.Lines.state c.args.target.now) c.args.number line c.args.shown.now (g.K.Sink.held c.args.out.now) _
    _ _ c.refuse.result h
    (sym c.is_silent.ensures ∙ c.if-is_silent.false) c.if-shown-gt-MOST_LINE_BYTES.true c.refuse.ensures.stop c.refuse.ensures.ok
    c.refuse.ensures.prefix

pub returns-clause-done : goal.returns-clause-done
returns-clause-done g c = λ line h.
    line_done g.R.Lines.replies (g.R.Lines.state c.args.target.now) _ c.args.number line c.args.shown.now _ _ h (sym c.is_silent.ensures
    ∙ c.if-is_silent.false)
    c.if-shown-gt-MOST_LINE_BYTES.false c.do_line.result c.do_line.ensures.done
