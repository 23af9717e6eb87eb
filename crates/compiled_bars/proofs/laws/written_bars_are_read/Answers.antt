use Rattle.compiled_bars.proofs.Lines.{written_are_read}
use Rattle.compiled_bars.proofs.laws.written_bars_are_read.Goals as goal

pub returns : goal.returns
returns c = written_are_read
