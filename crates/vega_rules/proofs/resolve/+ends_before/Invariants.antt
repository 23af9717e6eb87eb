use Rattle.std.proofs.Common.{length}
use Rattle.vega_rules.proofs.resolve.+ends_before.Given as goal

abbrev pub decreases-ends_before : goal.decreases-ends_before
decreases-ends_before l = length l.first.now
