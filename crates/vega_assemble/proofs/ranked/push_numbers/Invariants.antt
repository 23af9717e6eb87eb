use Rattle.std.proofs.Common.{◌≡◌, ◌++◌, drop, map}
use Rattle.std.specs.List.{enumerate_from}
use Rattle.vega_assemble.specs.Ranked.{number_found}
use Rattle.vega_assemble.proofs.ranked.push_numbers.Given as goal

abbrev pub invariant-loop-place : goal.invariant-loop-place
invariant-loop-place l =
    l.out ++ map (number_found l.stem l.scale) (enumerate_from l.place (drop l.place l.fields))
    ≡ l.fn.out ++ map (number_found l.stem l.scale) (enumerate_from 0 l.fields)
