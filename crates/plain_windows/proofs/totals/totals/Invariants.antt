use Rattle.std.proofs.Common.{◌≡◌, ◌++◌, take, drop, All}
use Rattle.plain_windows.specs.inner.Totals.{AddsLittle, AtMostSo, no_total, totals_from}
use Rattle.plain_windows.proofs.totals.totals.Given as goal

abbrev pub invariant-loop-at : goal.invariant-loop-at
invariant-loop-at l = record {
  filled : l.totals ++ totals_from l.total (drop l.at l.cells) ≡ totals_from no_total l.cells;
  bound : AtMostSo l.total l.at;
  little : All AddsLittle (take l.at l.cells);
}
