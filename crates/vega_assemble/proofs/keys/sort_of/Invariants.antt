use Rattle.std.proofs.Common.{◌≡◌, ◌++◌, drop, map}
use Rattle.std.specs.List.{enumerate_from}
use Rattle.vega_assemble.specs.Keys.{entry_of}
use Rattle.vega_assemble.proofs.keys.sort_of.Given as goal

abbrev pub invariant-loop-place : goal.invariant-loop-place
invariant-loop-place l =
    l.by ++ map (entry_of l.stem) (enumerate_from l.place (drop l.place l.field-items)) ≡ map (entry_of l.stem) (enumerate_from 0 l.field-items)
