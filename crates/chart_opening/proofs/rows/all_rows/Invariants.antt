use Rattle.std.proofs.Common.{◌≡◌, ◌+◌, length}
use Rattle.std.specs.Vec.Iter.{into_iter_items}
use Rattle.chart_opening.specs.Sources.{all_of}
use Rattle.chart_opening.proofs.FolderLemmas.{after}
use Rattle.chart_opening.proofs.rows.all_rows.Given as goal

abbrev pub invariant-loop-one : goal.invariant-loop-one
invariant-loop-one l = record {
  rows : after l.rows (all_of (into_iter_items l.one-iterator)) ≡ all_of l.fn.read;
  number : length l.rows + length (into_iter_items l.one-iterator) ≡ length l.fn.read;
}
