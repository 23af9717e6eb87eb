use Rattle.std.proofs.Common.{length}
use Rattle.vega_copies.proofs.paths.+inside_on.Given as goal

abbrev pub decreases-inside_on : goal.decreases-inside_on
decreases-inside_on l = length l.path.now
