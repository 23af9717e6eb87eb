use Rattle.std.proofs.Common.{◌≡◌, ◌++◌, drop}
use Rattle.plain_orders.specs.inner.Entries.{entries_from}
use Rattle.plain_orders.proofs.ListedLemmas.{behind}
use Rattle.plain_orders.proofs.listed.entries_behind.Given as goal

abbrev pub invariant-loop-place : goal.invariant-loop-place
invariant-loop-place l =
    l.entries.items ++ entries_from l.sort l.place (behind (drop l.place l.rows)) ≡ entries_from l.sort 0 (behind l.rows)
