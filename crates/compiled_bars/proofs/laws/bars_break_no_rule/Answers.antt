use Rattle.compiled_bars.proofs.Whole.{break_no_rule}
use Rattle.compiled_bars.proofs.laws.bars_break_no_rule.Goals as goal

pub returns : goal.returns
returns c = break_no_rule
