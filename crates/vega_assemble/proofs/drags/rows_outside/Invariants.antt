use Rattle.std.proofs.Common.{◌≡◌, ◌++◌, drop, map}
use Rattle.std.specs.List.{enumerate_from}
use Rattle.vega_assemble.specs.Drags.{reference_outside}
use Rattle.vega_assemble.proofs.drags.rows_outside.Given as goal

abbrev pub invariant-loop-place : goal.invariant-loop-place
invariant-loop-place l =
    l.fields ++ map (reference_outside l.stem l.number) (enumerate_from l.place (drop l.place l.r-items))
    ≡ map (reference_outside l.stem l.number) (enumerate_from 0 l.r-items)
