use Rattle.std.proofs.Common.{◌≡◌, None, drop, fold}
use Rattle.plain_bins.specs.inner.Wider.{with_row}
use Rattle.plain_bins.proofs.extents.extent_of.Given as goal

abbrev pub invariant-loop-row : goal.invariant-loop-row
invariant-loop-row l = fold (with_row l.name) l.found (drop l.row-index l.rows) ≡ fold (with_row l.name) None l.rows
