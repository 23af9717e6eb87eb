use Rattle.std.proofs.Common.{◌≡◌, ◌++◌, ◌+◌, ◌≤◌, length, vec_len, vec_capacity}
use Rattle.std.specs.Vec.Iter.{into_iter_items}
use Rattle.plain_engine.proofs.placing.add_all.Given as goal

abbrev pub invariant-loop-row : goal.invariant-loop-row
invariant-loop-row l =
    (vec_len l.kept + length (into_iter_items l.row-iterator) ≤ vec_capacity l.kept)
    × (l.kept.items ++ into_iter_items l.row-iterator ≡ l.initial.kept.items ++ l.fn.more.items)
