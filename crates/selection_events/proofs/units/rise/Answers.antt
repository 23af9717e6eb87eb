use Rattle.selection_events.proofs.UnitLemmas.{rising}
use Rattle.selection_events.proofs.units.rise.Goals as goal

pub returns : goal.returns
returns c = rising c.args.numbers.now c.is_sorted.result c.is_sorted.ensures.cases
