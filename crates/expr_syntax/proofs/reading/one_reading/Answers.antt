use Rattle.expr_syntax.proofs.Readings.{one_tree}
use Rattle.expr_syntax.proofs.reading.one_reading.Goals as goal

pub returns : goal.returns
returns c = one_tree
