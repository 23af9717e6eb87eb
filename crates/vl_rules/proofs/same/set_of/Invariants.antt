use Rattle.std.proofs.Common.{◌≡◌, ℕ, List, take}
use Rattle.std.specs.BTreeSet.{contains_text}
use Rattle.vl_rules.specs.Selections.{is_among}
use Rattle.vl_rules.proofs.same.set_of.Given as goal

abbrev pub invariant-loop-name : goal.invariant-loop-name
invariant-loop-name l = (q : List ℕ) → contains_text l.set q ≡ is_among (take l.name-index l.names) q
