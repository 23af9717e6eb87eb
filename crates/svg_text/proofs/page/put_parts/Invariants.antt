use Rattle.std.proofs.Common.{◌≤◌, ◌-◌, length, take, Ok}
use Rattle.chart_io.specs.declared.writing.WriteFault.{WriteFault}
use Rattle.svg_text.specs.inner.Printing.{Prints}
use Rattle.svg_text.proofs.page.put_parts.Given as goal

abbrev pub invariant-loop-at : goal.invariant-loop-at
invariant-loop-at g l = record {
  within : l.at ≤ length l.bytes;
  printed : Prints {T = Unit {0}} {E = WriteFault} g.K.Sink.faults g.K.Sink.held l.initial.out l.initial.page l.out l.page (Ok tt)
      (take l.at l.bytes);
}

abbrev pub decreases-loop-at : goal.decreases-loop-at
decreases-loop-at g l = length l.bytes - l.at
