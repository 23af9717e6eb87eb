use Rattle.first_form.proofs.BarCharts.{bars_keep_rules}
use Rattle.first_form.proofs.laws.bars_keep_rules.Goals as goal

pub returns : goal.returns
returns c = bars_keep_rules
