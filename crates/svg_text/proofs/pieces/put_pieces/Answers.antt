use Rattle.svg_text.specs.inner.Pieces.{piece_text}
use Rattle.svg_text.proofs.Steps.{prints_nothing, prints_item, prints_to_item, prints_all}
use Rattle.svg_text.proofs.pieces.put_pieces.Goals as goal

pub loop-piece-init : goal.loop-piece-init
loop-piece-init g c = prints_nothing c.args.out.now c.args.page.now _

pub returns-in_err-put_piece : goal.returns-in_err-put_piece
returns-in_err-put_piece g c =
    prints_to_item piece_text c.args.pieces.now c.loop-piece.piece-index c.piece-item.result c.loop-piece-test.true c.piece-item.is
    c.from_residual.ensures.0 c.loop-piece.invariant c.in_err-put_piece.ensures

pub loop-piece-preserved : goal.loop-piece-preserved
loop-piece-preserved g c = prints_item piece_text c.args.pieces.now c.loop-piece.piece-index c.piece-item.result c.loop-piece-test.true
    c.piece-item.is c.loop-piece.invariant c.in_ok-put_piece.ensures

pub returns : goal.returns
returns g c = prints_all piece_text c.args.pieces.now c.loop-piece.piece-index c.loop-piece-test.false c.loop-piece.invariant
