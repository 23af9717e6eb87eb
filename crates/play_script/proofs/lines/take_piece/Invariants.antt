use Rattle.std.proofs.Common.{◌≤◌, ◌+◌, ◌++◌, ℕ, List, take, length}
use Rattle.param_flow.specs.Script.{most_script_bytes}
use Rattle.play_script.specs.Played.{Sinks, sinks}
use Rattle.play_script.specs.inner.Progress.{Stands}
use Rattle.play_script.proofs.lines.take_piece.Given as goal

abbrev pub invariant-loop-byte : goal.invariant-loop-byte
invariant-loop-byte g l = record {
  out_counted : g.K.Sink.faults l.initial.out ≤ g.K.Sink.faults l.out;
  notes_counted : g.N.Sink.faults l.initial.notes ≤ g.N.Sink.faults l.notes;
  steps : l.initial.steps ≤ l.steps;
  stands : (st : g.R.Lines.State) (before : Sinks) (taken : List ℕ) → length taken + length l.piece ≤ most_script_bytes
      → Stands g.R.Lines.replies st before taken l.initial.line (g.R.Lines.state l.initial.target)
      (sinks (g.K.Sink.held l.initial.out) (g.N.Sink.held l.initial.notes) (g.N.Sink.faults l.initial.notes))
      → Stands g.R.Lines.replies st before (taken ++ take l.byte-index l.piece) l.line (g.R.Lines.state l.target)
      (sinks (g.K.Sink.held l.out) (g.N.Sink.held l.notes) (g.N.Sink.faults l.notes));
}
