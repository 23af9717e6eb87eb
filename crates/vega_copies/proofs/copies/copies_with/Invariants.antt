use Rattle.std.proofs.Common.{◌≡◌, ◌++◌, map, drop}
use Rattle.std.specs.List.{enumerate_from}
use Rattle.vega_copies.specs.inner.Copied.{copy_seen, copy_at}
use Rattle.vega_copies.proofs.copies.copies_with.Given as goal

abbrev pub invariant-loop-place : goal.invariant-loop-place
invariant-loop-place l =
    map copy_seen l.copies ++ map (copy_at l.fields l.names l.tables) (enumerate_from l.place (drop l.place l.cells))
    ≡ map (copy_at l.fields l.names l.tables) (enumerate_from 0 l.cells)
