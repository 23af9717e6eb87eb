use Rattle.std.proofs.Common.{◌≡◌, ◌≤◌, ◌++◌, length, drop}
use Rattle.plain_groups.specs.Aggregates.{numbers_among}
use Rattle.plain_groups.proofs.numbers.numbers_among.Given as goal

abbrev pub invariant-loop-cell : goal.invariant-loop-cell
invariant-loop-cell l = record {
  value : l.numbers.items ++ numbers_among (drop l.cell-index l.cells) ≡ numbers_among l.cells;
  bound : length l.numbers.items ≤ l.cell-index;
}
