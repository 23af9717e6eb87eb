use Rattle.std.proofs.Common.{◌≡◌, length}
use Rattle.vega_parts.specs.Data.{is_far}
use Rattle.vega_parts.proofs.data.is_far.Given as goal

abbrev pub invariant-loop-rest : goal.invariant-loop-rest
invariant-loop-rest l = is_far l.rest ≡ is_far l.bytes

abbrev pub decreases-loop-rest : goal.decreases-loop-rest
decreases-loop-rest l = length l.rest
