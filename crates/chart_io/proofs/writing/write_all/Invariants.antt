use Rattle.std.proofs.Common.{◌≤◌, ◌-◌, length, take}
use Rattle.chart_io.specs.Outside.{Appended}
use Rattle.chart_io.proofs.writing.write_all.Given as goal

abbrev pub invariant-loop-at : goal.invariant-loop-at
invariant-loop-at g l = record {
  counted : g.K.Sink.faults l.initial.out ≤ g.K.Sink.faults l.out;
  within : l.at ≤ length l.bytes;
  written : Appended (g.K.Sink.held l.initial.out) (g.K.Sink.held l.out) (take l.at l.bytes);
}

abbrev pub decreases-loop-at : goal.decreases-loop-at
decreases-loop-at g l = length l.bytes - l.at
