use Rattle.std.proofs.Common.{◌≡◌, drop}
use Rattle.vl_rules.specs.Resting.{lies_aside}
use Rattle.vl_rules.proofs.resting.lies_aside.Given as goal

abbrev pub invariant-loop-number : goal.invariant-loop-number
invariant-loop-number l = lies_aside l.here (drop l.number-index l.place) ≡ lies_aside l.tree l.place
