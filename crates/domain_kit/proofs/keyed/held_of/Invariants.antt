use Rattle.std.proofs.Common.{◌≡◌, take}
use Rattle.domain_kit.specs.Orders.{values_under}
use Rattle.domain_kit.specs.inner.Held.{values_held}
use Rattle.domain_kit.proofs.keyed.held_of.Given as goal

abbrev pub invariant-loop-entry : goal.invariant-loop-entry
invariant-loop-entry l = values_held l.held ≡ values_under (take l.entry-index l.entries)
