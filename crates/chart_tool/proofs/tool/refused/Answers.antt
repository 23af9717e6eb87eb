use Rattle.std.proofs.Common.{rules, refl, inl, inr, ◌∙◌}
use Rattle.chart_run.specs.Ends.{Refused, NoMemory, end_note, IsNoted}
use Rattle.chart_tool.proofs.tool.refused.Goals as goal

pub returns-in-Ok-clause-ended : goal.returns-in-Ok-clause-ended
returns-in-Ok-clause-ended g c =
    let line : IsNoted (g.N.Sink.faults c.args.notes.now) (g.N.Sink.faults c.noted.new.notes) (g.N.Sink.held c.args.notes.now)
    (g.N.Sink.held c.noted.new.notes) (end_note (Refused c.args.why.now)) = search rules in
    (Refused c.args.why.now, inl refl, c.noted.ensures.status ∙ c.refusal_status.ensures, line)

pub returns-in-Err-clause-ended : goal.returns-in-Err-clause-ended
returns-in-Err-clause-ended g c = (NoMemory, inr refl, c.noted-in-Err.ensures.status, c.noted-in-Err.ensures.noted)
