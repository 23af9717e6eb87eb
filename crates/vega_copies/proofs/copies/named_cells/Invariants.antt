use Rattle.std.proofs.Common.{◌≡◌, ◌++◌, zip, drop}
use Rattle.vega_copies.proofs.copies.named_cells.Given as goal

abbrev pub invariant-loop-at : goal.invariant-loop-at
invariant-loop-at l = l.named ++ drop l.at (zip l.fields l.cells) ≡ zip l.fields l.cells
