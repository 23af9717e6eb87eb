use Rattle.std.proofs.Common.{◌≡◌, ◌++◌, map, drop}
use Rattle.vega_copies.proofs.copies.all_copied.Given as goal

abbrev pub invariant-loop-row : goal.invariant-loop-row
invariant-loop-row l = l.copies ++ map (λ row. row.now) (drop l.row-index l.rows) ≡ map (λ row. row.now) l.rows
