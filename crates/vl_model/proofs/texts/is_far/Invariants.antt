use Rattle.std.proofs.Common.{◌≡◌, length}
use Rattle.vl_model.specs.Texts.{is_far}
use Rattle.vl_model.proofs.texts.is_far.Given as goal

abbrev pub invariant-loop-rest : goal.invariant-loop-rest
invariant-loop-rest l = is_far l.rest ≡ is_far l.bytes

abbrev pub decreases-loop-rest : goal.decreases-loop-rest
decreases-loop-rest l = length l.rest
