use Rattle.std.proofs.Common.{◌≡◌, take, flat_map}
use Rattle.domain_kit.specs.inner.Held.{values_held}
use Rattle.domain_kit.proofs.keyed.all_held.Given as goal

abbrev pub invariant-loop-key : goal.invariant-loop-key
invariant-loop-key l = l.values ≡ flat_map (values_held l.held) (take l.key-index l.keys)
