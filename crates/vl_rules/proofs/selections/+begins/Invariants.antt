use Rattle.std.proofs.Common.{length}
use Rattle.vl_rules.proofs.selections.+begins.Given as goal

abbrev pub decreases-begins : goal.decreases-begins
decreases-begins l = length l.steps.now
