use Rattle.std.proofs.Common.{◌≡◌, drop}
use Rattle.selection_rules.specs.Tested.{has_all}
use Rattle.selection_rules.proofs.names.are_in.Given as goal

abbrev pub invariant-loop-name : goal.invariant-loop-name
invariant-loop-name l = has_all l.held (drop l.name-index l.names) ≡ has_all l.held l.names
