use Rattle.std.proofs.Common.{◌≡◌, ◌≤◌, ◌-◌, ◌^◌, length}
use Rattle.play_script.specs.Played.{sinks}
use Rattle.play_script.proofs.Exits.{Going}
use Rattle.play_script.proofs.playing.play_pieces.Given as goal

abbrev pub invariant-loop-n : goal.invariant-loop-n
invariant-loop-n g l = record {
  script_counted : g.S.Source.faults l.initial.script ≤ g.S.Source.faults l.script;
  out_counted : g.K.Sink.faults l.initial.out ≤ g.K.Sink.faults l.out;
  notes_counted : g.N.Sink.faults l.initial.notes ≤ g.N.Sink.faults l.notes;
  steps : l.initial.steps ≤ l.steps;
  room : length l.buffer ≡ length l.initial.buffer;
  going : Going g.R.Lines.replies (g.R.Lines.state l.initial.target)
      (sinks (g.K.Sink.held l.initial.out) (g.N.Sink.held l.initial.notes) (g.N.Sink.faults l.initial.notes))
      (g.S.Source.left l.initial.script) (g.S.Source.left l.script) l.taken l.line (g.R.Lines.state l.target)
      (sinks (g.K.Sink.held l.out) (g.N.Sink.held l.notes) (g.N.Sink.faults l.notes));
}

abbrev pub decreases-loop-n : goal.decreases-loop-n
decreases-loop-n g l = 2 ^ 28 - l.taken
