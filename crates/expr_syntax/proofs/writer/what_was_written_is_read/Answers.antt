use Rattle.expr_syntax.proofs.Rewritten.{rewritten_whole}
use Rattle.expr_syntax.proofs.writer.what_was_written_is_read.Goals as goal

pub returns : goal.returns
returns c = rewritten_whole
