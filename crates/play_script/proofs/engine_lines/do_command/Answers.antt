use Rattle.std.proofs.Common.{Err, refl, ap, ◌∙◌}
use Rattle.play_script.proofs.Replied.{printed_done, refused_done}
use Rattle.play_script.proofs.engine_lines.do_command.Goals as goal

pub returns-in-Ok-Print-clause-done : goal.returns-in-Ok-Print-clause-done
returns-in-Ok-Print-clause-done g c = λ n noted faults.
    let meaning = g.E.Engine.meaning c.args.engine.now in
    let stands = g.E.Engine.stands c.args.engine.now in
    printed_done meaning meaning n c.args.line.now (g.K.Sink.held c.args.out.now) _ noted faults c.print.result c.print.ensures.stop
    stands.drawn.0 stands.drawn.1
    (rw c.in-Ok-Print.field-0-is at c.in-Ok-Print.ensures.sound) refl c.print.ensures.ok c.print.ensures.prefix

pub returns-in-Ok : goal.returns-in-Ok
returns-in-Ok g c = record {
  counted = c.apply.ensures.counted;
  write = c.apply.ensures.write;
  steps = c.apply.ensures.steps;
  done = λ n noted faults. c.apply.ensures.done c.args.line.now n noted faults c.in-Ok.ensures.sound;
}

pub returns-in-Err-Fault-clause-done : goal.returns-in-Err-Fault-clause-done
returns-in-Err-Fault-clause-done g c = λ n noted faults.
    let meaning = g.E.Engine.meaning c.args.engine.now in
    refused_done meaning meaning n c.args.line.now (g.K.Sink.held c.args.out.now) _ noted faults c.refuse.result c.refuse.ensures.stop
    (c.read_command.ensures.fault (c.in-Err-Fault.is ∙ ap Err c.in-Err-Fault.field-0-is)) refl c.refuse.ensures.ok c.refuse.ensures.prefix
