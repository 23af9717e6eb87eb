use Rattle.play_script.proofs.Replied.{told_done}
use Rattle.play_script.proofs.engine_lines.apply.Goals as goal

pub returns-clause-done : goal.returns-clause-done
returns-clause-done g c = λ line n noted faults is.
    told_done (g.E.Engine.meaning c.args.engine.now) _ n line (g.K.Sink.held c.args.out.now) _ noted faults c.write_reply.result
    c.write_reply.ensures.stop c.args.command.now is c.requires
    c.in-Ok.ensures.done (rw c.in-Ok.ensures.reply at c.write_reply.ensures.ok) (rw c.in-Ok.ensures.reply at c.write_reply.ensures.prefix)
