use Rattle.play_script.proofs.Standing.{pushed, fed_ok, fed_err}
use Rattle.play_script.proofs.lines.take_byte.Goals as goal

pub returns-then-byte-ne10-clause-goes : goal.returns-then-byte-ne10-clause-goes
returns-then-byte-ne10-clause-goes g c = λ st before taken short h.
    pushed g.R.Lines.replies st before taken c.args.line.now _ _ h c.args.byte c.push.new.self c.push.result c.if-byte-ne10.true
    c.push.ensures.ok c.push.ensures.memory c.push.ensures.number

pub returns-in-Ok-clause-goes : goal.returns-in-Ok-clause-goes
returns-in-Ok-clause-goes g c = λ st before taken short h.
    fed_ok g.R.Lines.replies st before taken c.args.line.now _ _ h _ _ c.answer_line.ensures.notes_counted c.shown.result.now c.args.byte
    c.next.new.self c.if-byte-ne10.false short c.shown.ensures
    (rw c.number-number.ensures at c.in-Ok.ensures.done) c.next.ensures.kept c.next.ensures.number

pub returns-in-Err-clause-goes : goal.returns-in-Err-clause-goes
returns-in-Err-clause-goes g c = λ st before taken short h.
    fed_err g.R.Lines.replies st before taken c.args.line.now _ _ h _ _ c.answer_line.ensures.notes_counted c.shown.result.now c.args.byte
    c.if-byte-ne10.false c.shown.ensures c.in-Err.cause
    (rw c.number-number.ensures at c.in-Err.ensures.done)
