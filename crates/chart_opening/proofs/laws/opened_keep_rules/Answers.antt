use Rattle.chart_opening.proofs.ChartOpenings.{opened_keep}
use Rattle.chart_opening.proofs.laws.opened_keep_rules.Goals as goal

pub returns : goal.returns
returns c = opened_keep c.accepted_keep_rules.ensures c.accepted_keep_selections.ensures
