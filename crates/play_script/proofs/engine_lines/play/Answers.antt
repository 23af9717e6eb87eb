use Rattle.play_script.proofs.Vega.{as_vega}
use Rattle.play_script.proofs.engine_lines.play.Goals as goal

pub returns-clause-spec : goal.returns-clause-spec
returns-clause-spec g c =
    let (lines, out, notes, is) = c.play_lines.ensures.reached in
    (as_vega (g.E.Engine.meaning c.args.engine.now) (g.E.Engine.meaning c.play_lines.new.target) 1 lines out notes is).0
