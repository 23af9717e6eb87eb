use Rattle.need_graph.proofs.LevelLemmas.{all_out}
use Rattle.need_graph.proofs.levels.ruled_out.Goals as goal

pub returns-then-never_rises : goal.returns-then-never_rises
returns-then-never_rises c =
    let never = c.never_rises.ensures c.if-never_rises.true in
    all_out c.in_ok-levels.levels c.args.needs.now never c.all_lead_down.result c.all_lead_down.ensures
