use Rattle.std.proofs.Common.{◌≡◌, ◌++◌, drop}
use Rattle.vl_rules.proofs.selections.push_copies.Given as goal

abbrev pub invariant-loop-name : goal.invariant-loop-name
invariant-loop-name l = l.out ++ drop l.name-index l.names ≡ l.fn.out ++ l.names
