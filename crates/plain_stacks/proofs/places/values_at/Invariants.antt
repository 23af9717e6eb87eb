use Rattle.std.proofs.Common.{◌≡◌, ◌++◌, drop}
use Rattle.plain_stacks.specs.inner.Sums.{values_at}
use Rattle.plain_stacks.proofs.places.values_at.Given as goal

abbrev pub invariant-loop-place : goal.invariant-loop-place
invariant-loop-place l = l.values ++ values_at l.amounts (drop l.place-index l.places) ≡ values_at l.amounts l.places
