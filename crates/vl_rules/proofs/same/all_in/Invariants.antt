use Rattle.std.proofs.Common.{◌≡◌, drop}
use Rattle.std.specs.List.{list_all}
use Rattle.std.specs.BTreeSet.{contains_text}
use Rattle.vl_rules.proofs.same.all_in.Given as goal

abbrev pub invariant-loop-name : goal.invariant-loop-name
invariant-loop-name l = list_all (contains_text l.set) (drop l.name-index l.names) ≡ list_all (contains_text l.set) l.names
