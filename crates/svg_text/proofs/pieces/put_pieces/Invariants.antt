use Rattle.std.proofs.Common.{take, Ok}
use Rattle.std.specs.List.{flat_map}
use Rattle.chart_io.specs.declared.writing.WriteFault.{WriteFault}
use Rattle.svg_text.specs.inner.Printing.{Prints}
use Rattle.svg_text.specs.inner.Pieces.{piece_text}
use Rattle.svg_text.proofs.pieces.put_pieces.Given as goal

abbrev pub invariant-loop-piece : goal.invariant-loop-piece
invariant-loop-piece g l = Prints {T = Unit {0}} {E = WriteFault} g.K.Sink.faults g.K.Sink.held l.initial.out l.initial.page l.out l.page
    (Ok tt) (flat_map piece_text (take l.piece-index l.pieces))
