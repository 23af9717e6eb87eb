use Rattle.compiled_bars.proofs.Whole.{are_read}
use Rattle.compiled_bars.proofs.laws.bars_are_read.Goals as goal

pub returns : goal.returns
returns c = are_read
