use Rattle.std.proofs.Common.{length}
use Rattle.vl_rules.proofs.selections.+any_part_scales.Given as goal

abbrev pub decreases-any_part_scales : goal.decreases-any_part_scales
decreases-any_part_scales l = length l.units.now
