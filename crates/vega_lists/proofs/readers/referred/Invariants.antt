use Rattle.std.proofs.Common.{◌≡◌, map, take}
use Rattle.vega_lists.proofs.readers.referred.Given as goal

abbrev pub invariant-loop-row : goal.invariant-loop-row
invariant-loop-row l = map (λ row. row.now) l.found ≡ take l.row-index l.rows
