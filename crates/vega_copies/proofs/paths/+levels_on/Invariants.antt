use Rattle.std.proofs.Common.{length}
use Rattle.vega_copies.proofs.paths.+levels_on.Given as goal

abbrev pub decreases-levels_on : goal.decreases-levels_on
decreases-levels_on l = length l.path.now
