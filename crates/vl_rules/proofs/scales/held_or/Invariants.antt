use Rattle.std.proofs.Common.{◌≡◌, drop}
use Rattle.vl_rules.specs.Scales.{held_or}
use Rattle.vl_rules.proofs.scales.held_or.Given as goal

abbrev pub invariant-loop-name : goal.invariant-loop-name
invariant-loop-name l =
    held_or l.tree l.trail (drop l.name-index l.names) l.fn.otherwise ≡ held_or l.tree l.trail l.names l.fn.otherwise
