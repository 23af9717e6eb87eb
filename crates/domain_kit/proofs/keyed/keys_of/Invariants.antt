use Rattle.std.proofs.Common.{◌≡◌, take}
use Rattle.domain_kit.specs.Orders.{keys_of}
use Rattle.domain_kit.proofs.keyed.keys_of.Given as goal

abbrev pub invariant-loop-entry : goal.invariant-loop-entry
invariant-loop-entry l = l.keys ≡ keys_of (take l.entry-index l.entries)
