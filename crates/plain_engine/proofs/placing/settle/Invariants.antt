use Rattle.std.proofs.Common.{◌≡◌, ◌++◌, ◌+◌, ◌≤◌, length, vec_len, vec_capacity}
use Rattle.std.specs.Vec.Iter.{into_iter_items, into_iter_len}
use Rattle.plain_engine.specs.inner.Edits.{edited}
use Rattle.plain_engine.specs.inner.Undo.{marked}
use Rattle.plain_engine.proofs.placing.settle.Given as goal

abbrev pub invariant-loop-row : goal.invariant-loop-row
invariant-loop-row l = record {
  counted : into_iter_len l.edits ≡ length (into_iter_items l.edits);
  each : length (into_iter_items l.edits) ≡ length (into_iter_items l.row-iterator);
  kept_room : vec_len l.kept + length (into_iter_items l.row-iterator) ≤ vec_len l.initial.kept + length l.fn.rows.items;
  kept_capacity : vec_capacity l.kept ≡ vec_capacity l.initial.kept;
  marks_room : vec_len l.marks + length (into_iter_items l.row-iterator) ≤ vec_capacity l.marks;
  rows : l.kept.items ++ edited (into_iter_items l.edits) (into_iter_items l.row-iterator)
      ≡ l.initial.kept.items ++ edited l.fn.edits.items l.fn.rows.items;
  marked : l.marks.items ++ marked (into_iter_items l.edits) (into_iter_items l.row-iterator)
      ≡ l.initial.marks.items ++ marked l.fn.edits.items l.fn.rows.items;
}
