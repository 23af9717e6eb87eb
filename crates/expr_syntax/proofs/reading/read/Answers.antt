-- What was read is what the function on lists gives, which is what the text reads as.
use Rattle.expr_syntax.proofs.Readings.{read_is_sound, read_complete, read_shape, refused_complete, refused_shape}
use Rattle.expr_syntax.proofs.reading.read.Goals as goal

pub returns-in-Err-clause-complete : goal.returns-in-Err-clause-complete
returns-in-Err-clause-complete c = refused_complete c.args.text.now c.in-Err.error c.in-Err.ensures.shape

pub returns-in-Err-clause-shape : goal.returns-in-Err-clause-shape
returns-in-Err-clause-shape c = refused_shape c.args.text.now c.in-Err.error c.in-Err.ensures.shape

pub returns-clause-complete : goal.returns-clause-complete
returns-clause-complete c =
    read_complete c.args.text.now c.in-Ok.tokens c.whole_at.result c.in-Ok.ensures.ok (rw c.as_slice.ensures at c.whole_at.ensures)

pub returns-clause-shape : goal.returns-clause-shape
returns-clause-shape c =
    read_shape c.args.text.now c.in-Ok.tokens c.whole_at.result c.in-Ok.ensures.ok (rw c.as_slice.ensures at c.whole_at.ensures)

pub returns-clause-sound : goal.returns-clause-sound
returns-clause-sound c =
    read_is_sound c.args.text.now c.in-Ok.tokens c.whole_at.result c.in-Ok.ensures.ok (rw c.as_slice.ensures at c.whole_at.ensures)
