use Rattle.std.proofs.Common.{take, Ok}
use Rattle.std.specs.List.{flat_map}
use Rattle.chart_io.specs.declared.writing.WriteFault.{WriteFault}
use Rattle.svg_text.specs.inner.Printing.{Prints}
use Rattle.svg_text.specs.inner.Runs.{run_text}
use Rattle.svg_text.proofs.scene_text.put_runs.Given as goal

abbrev pub invariant-loop-run : goal.invariant-loop-run
invariant-loop-run g l = Prints {T = Unit {0}} {E = WriteFault} g.K.Sink.faults g.K.Sink.held l.initial.out l.initial.page l.out l.page
    (Ok tt) (flat_map run_text (take l.run-index l.runs))
