use Rattle.std.proofs.Common.{◌≡◌, refl, arith, ◌∙◌}
use Rattle.play_script.specs.declared.errors.PlayError.TheVariants.{Read}
use Rattle.play_script.proofs.Exits.{going_first, read_answers, end_answers, end_no_read, piece_answers, piece_no_read, going_on}
use Rattle.play_script.proofs.playing.play_pieces.Goals as goal

pub loop-n-init : goal.loop-n-init
loop-n-init g c = record {
  script_counted = omega arith;
  out_counted = omega arith;
  notes_counted = omega arith;
  steps = omega arith;
  room = refl;
  going = going_first g.R.Lines.replies (g.R.Lines.state c.args.target.now) _ (g.S.Source.left c.args.script.now) c.args.line.now
      c.requires.first.0 c.requires.first.1;
}

pub returns-in-Err-clause-played : goal.returns-in-Err-clause-played
returns-in-Err-clause-played g c =
    let some = c.requires.some in
    let room = c.loop-n.invariant.room in
    let same = c.read_piece.ensures.len in
    read_answers g.R.Lines.replies _ _ (Unit {0}) _ _ _ _ _ _ _ _ c.read_piece.new.buffer c.in-Err.fault c.read_piece.result c.in-Err.is
    c.loop-n.invariant.going (omega arith)
    c.in-Err.ensures.stop c.read_piece.ensures.kept c.read_piece.ensures.size

pub returns-then-n-eq0-clause-played : goal.returns-then-n-eq0-clause-played
returns-then-n-eq0-clause-played g c =
    end_answers g.R.Lines.replies _ _ _ _ _ _ _ _ _ _ _ c.read_piece.new.buffer c.in-Ok.n c.loop-n.invariant.going c.in-Ok.ensures.moved
    c.shown.result.now c.answer_line.result
    c.if-n-eq0.true c.answer_line.ensures.notes_counted c.shown.ensures (rw c.number-number.ensures at c.answer_line.ensures.done)

pub returns-then-n-eq0-clause-read : goal.returns-then-n-eq0-clause-read
returns-then-n-eq0-clause-read g c = λ same.
    absurd (end_no_read g.R.Lines.replies _ _ _ _ _ _ _ _ _ _ _ c.read_piece.new.buffer c.in-Ok.n c.loop-n.invariant.going
    c.in-Ok.ensures.moved c.shown.result.now c.answer_line.result
    c.shown.ensures (rw c.number-number.ensures at c.answer_line.ensures.done) same)

pub loop-n-preserved : goal.loop-n-preserved
loop-n-preserved g c =
    let few = c.in-Ok.ensures.taken in
    record {
      script_counted = omega (arith, c.loop-n.invariant.script_counted, c.in-Ok.ensures.counted);
      out_counted = omega (arith, c.loop-n.invariant.out_counted, c.take_piece.ensures.out_counted);
      notes_counted = omega (arith, c.loop-n.invariant.notes_counted, c.take_piece.ensures.notes_counted);
      steps = omega (arith, c.loop-n.invariant.steps, c.take_piece.ensures.steps);
      room = c.in-Ok.ensures.len ∙ c.loop-n.invariant.room;
      going = going_on g.R.Lines.replies _ _ _ _ _ _ _ _ _ _ _ c.read_piece.new.buffer c.in-Ok.n c.loop-n.invariant.going
          c.in-Ok.ensures.moved (omega (arith, few.0, few.1))
          c.in-Ok.ensures.within _ _ few.0 c.in-Ok-take_piece.ensures.goes;
    }

pub returns-in-Err-take_piece-clause-read : goal.returns-in-Err-take_piece-clause-read
returns-in-Err-take_piece-clause-read g c = λ same.
    let few = c.in-Ok.ensures.taken in
    let read : c.in-Err-take_piece.cause ≡ Read = cc in
    absurd (piece_no_read g.R.Lines.replies _ _ _ _ _ _ _ _ _ _ _ c.read_piece.new.buffer c.in-Ok.n c.loop-n.invariant.going
    c.in-Ok.ensures.moved (omega (arith, few.0, few.1))
    c.in-Ok.ensures.within c.in-Err-take_piece.cause c.in-Err-take_piece.ensures.goes read)

pub returns-in-Err-take_piece-clause-played : goal.returns-in-Err-take_piece-clause-played
returns-in-Err-take_piece-clause-played g c =
    let few = c.in-Ok.ensures.taken in
    piece_answers g.R.Lines.replies _ _ _ _ _ _ _ _ _ _ _ c.read_piece.new.buffer c.in-Ok.n c.loop-n.invariant.going c.in-Ok.ensures.moved
    (omega (arith, few.0, few.1))
    c.in-Ok.ensures.within c.in-Err-take_piece.cause c.in-Err-take_piece.ensures.goes (Unit {0})
