-- A line is answered by what its tree is read as.
use Rattle.play_script.proofs.CommandLines.{line_sound, line_complete, line_fault}
use Rattle.play_script.proofs.reading.read_command.Goals as goal

pub returns-in-Ok-clause-sound : goal.returns-in-Ok-clause-sound
returns-in-Ok-clause-sound c = line_sound c.args.line.now c.in-Ok.tree c.in-Ok.ensures.sound c.command_of.result c.command_of.ensures

pub returns-in-Ok-clause-complete : goal.returns-in-Ok-clause-complete
returns-in-Ok-clause-complete c = line_complete c.args.line.now c.in-Ok.tree c.in-Ok.ensures.sound c.command_of.result c.command_of.ensures

pub returns-in-Ok-clause-fault : goal.returns-in-Ok-clause-fault
returns-in-Ok-clause-fault c = line_fault c.args.line.now c.in-Ok.tree c.in-Ok.ensures.sound c.command_of.result c.command_of.ensures
