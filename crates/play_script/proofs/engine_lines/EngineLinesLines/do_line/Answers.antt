use Rattle.play_script.proofs.engine_lines.EngineLinesLines.do_line.Goals as goal

pub returns-clause-done : goal.returns-clause-done
returns-clause-done g c = c.do_command.ensures.done _ _ _
