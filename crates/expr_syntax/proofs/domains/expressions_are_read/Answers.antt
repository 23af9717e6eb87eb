use Rattle.expr_syntax.proofs.Expressed.{expression_read, reads_rightly}
use Rattle.expr_syntax.proofs.domains.expressions_are_read.Goals as goal

pub returns : goal.returns
returns c = (expression_read, reads_rightly)
