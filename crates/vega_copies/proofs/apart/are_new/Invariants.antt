use Rattle.std.proofs.Common.{◌≡◌, ℕ, List, [], take, drop}
use Rattle.std.specs.List.{list_any}
use Rattle.std.specs.Str.{bytes_eq}
use Rattle.std.specs.BTreeSet.{contains_text}
use Rattle.vega_copies.specs.Tested.{are_new}
use Rattle.vega_copies.proofs.apart.are_new.Given as goal

abbrev pub invariant-loop-name : goal.invariant-loop-name
invariant-loop-name l = record {
  seen : (q : List ℕ) → contains_text l.seen q ≡ list_any (bytes_eq q) (take l.name-index l.names);
  rest : are_new (take l.name-index l.names) (drop l.name-index l.names) ≡ are_new [] l.names;
}
