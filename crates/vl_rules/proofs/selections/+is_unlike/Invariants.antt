use Rattle.std.proofs.Common.{length}
use Rattle.vl_rules.proofs.selections.+is_unlike.Given as goal

abbrev pub decreases-is_unlike : goal.decreases-is_unlike
decreases-is_unlike l = length l.units.now
