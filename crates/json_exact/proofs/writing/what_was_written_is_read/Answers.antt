use Rattle.json_exact.proofs.Rewritten.{written_again}
use Rattle.json_exact.proofs.writing.what_was_written_is_read.Goals as goal

pub returns : goal.returns
returns c = written_again
