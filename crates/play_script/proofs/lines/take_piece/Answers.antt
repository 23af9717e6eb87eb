use Rattle.std.proofs.Common.{◌++◌, take}
use Rattle.play_script.proofs.Standing.{piece_short, piece_stopped, piece_done}
use Rattle.play_script.proofs.lines.take_piece.Goals as goal

pub returns-in-Err-clause-goes : goal.returns-in-Err-clause-goes
returns-in-Err-clause-goes g c = λ st before taken short h.
    let i = c.loop-byte.byte-index in
    let piece = c.args.piece.now in
    piece_stopped g.R.Lines.replies st _ before _ taken piece i c.in-Err.cause _ c.loop-byte-test.true
    (c.in-Err.ensures.goes st before (taken ++ take i piece) (piece_short taken piece i short)
    (c.loop-byte.invariant.stands st before taken short h))

pub returns-clause-goes : goal.returns-clause-goes
returns-clause-goes g c = λ st before taken short h.
    piece_done g.R.Lines.replies st _ before _ taken c.args.piece.now c.loop-byte.byte-index _ c.loop-byte-test.false
    (c.loop-byte.invariant.stands st before taken short h)
