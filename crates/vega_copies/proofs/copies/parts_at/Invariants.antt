use Rattle.std.proofs.Common.{◌≡◌, ◌++◌, map, zip, drop}
use Rattle.vega_copies.specs.inner.Copied.{part_at}
use Rattle.vega_copies.proofs.copies.parts_at.Given as goal

abbrev pub invariant-loop-at : goal.invariant-loop-at
invariant-loop-at l = l.parts ++ map (part_at l.copy) (drop l.at (zip l.names l.tables)) ≡ map (part_at l.copy) (zip l.names l.tables)
