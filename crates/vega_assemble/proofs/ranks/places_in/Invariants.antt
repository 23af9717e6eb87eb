use Rattle.std.proofs.Common.{◌≡◌, ◌++◌, drop, map}
use Rattle.std.specs.List.{enumerate_from}
use Rattle.vega_assemble.specs.Ranks.{place_if}
use Rattle.vega_assemble.proofs.ranks.places_in.Given as goal

abbrev pub invariant-loop-place : goal.invariant-loop-place
invariant-loop-place l =
    l.out ++ map (place_if l.shown) (enumerate_from l.place (drop l.place l.cells)) ≡ map (place_if l.shown) (enumerate_from 0 l.cells)
