use Rattle.std.proofs.Common.{◌≡◌, drop}
use Rattle.std.specs.List.{list_any}
use Rattle.vega_copies.specs.inner.Alike.{is_one_of}
use Rattle.vega_copies.proofs.alike.is_any_named.Given as goal

abbrev pub invariant-loop-list : goal.invariant-loop-list
invariant-loop-list l = list_any (is_one_of l.names) (drop l.list-index l.lists) ≡ list_any (is_one_of l.names) l.lists
