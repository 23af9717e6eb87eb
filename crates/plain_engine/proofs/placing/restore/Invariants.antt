use Rattle.std.proofs.Common.{◌≡◌, ◌++◌, ◌+◌, ◌≤◌, length, vec_len, vec_capacity}
use Rattle.std.specs.Vec.Iter.{into_iter_items, into_iter_len}
use Rattle.plain_engine.specs.inner.Undo.{restored}
use Rattle.plain_engine.proofs.placing.restore.Given as goal

abbrev pub invariant-loop-mark : goal.invariant-loop-mark
invariant-loop-mark l =
    (into_iter_len l.rows ≡ length (into_iter_items l.rows))
    × (vec_len l.old + length (into_iter_items l.mark-iterator) ≤ vec_capacity l.old)
    × (l.old.items ++ restored (into_iter_items l.mark-iterator) (into_iter_items l.rows)
    ≡ l.initial.old.items ++ restored l.fn.marks.items l.fn.rows.items)
