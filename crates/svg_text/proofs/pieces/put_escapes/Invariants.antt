use Rattle.std.proofs.Common.{Ok}
use Rattle.std.specs.List.{flat_map}
use Rattle.chart_io.specs.declared.writing.WriteFault.{WriteFault}
use Rattle.svg_text.specs.SceneText.{xml_char}
use Rattle.svg_text.specs.inner.Printing.{Prints}
use Rattle.svg_text.proofs.pieces.put_escapes.Given as goal

abbrev pub invariant-loop-c : goal.invariant-loop-c
invariant-loop-c g l = Prints {T = Unit {0}} {E = WriteFault} g.K.Sink.faults g.K.Sink.held l.initial.out l.initial.page l.out l.page
    (Ok tt) (flat_map xml_char l.yielded)
