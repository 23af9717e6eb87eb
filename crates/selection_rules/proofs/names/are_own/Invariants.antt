use Rattle.std.proofs.Common.{◌≡◌, ℕ, List, [], take, drop}
use Rattle.std.specs.List.{list_any}
use Rattle.std.specs.Str.{bytes_eq}
use Rattle.std.specs.BTreeSet.{contains_text}
use Rattle.selection_rules.specs.Tested.{are_own}
use Rattle.selection_rules.proofs.names.are_own.Given as goal

abbrev pub invariant-loop-name : goal.invariant-loop-name
invariant-loop-name l = record {
  seen : (q : List ℕ) → contains_text l.seen q ≡ list_any (bytes_eq q) (take l.name-index l.names);
  rest : are_own (take l.name-index l.names) (drop l.name-index l.names) ≡ are_own [] l.names;
}
