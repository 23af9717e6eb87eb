use Rattle.std.proofs.Common.{◌≡◌, ◌++◌, drop, map}
use Rattle.std.specs.List.{enumerate_from}
use Rattle.vega_assemble.specs.Ranked.{codes_list}
use Rattle.vega_assemble.proofs.ranked.push_codes.Given as goal

abbrev pub invariant-loop-place : goal.invariant-loop-place
invariant-loop-place l =
    l.out ++ map (codes_list l.stem l.scale l.by) (enumerate_from l.place (drop l.place l.fields))
    ≡ l.fn.out ++ map (codes_list l.stem l.scale l.by) (enumerate_from 0 l.fields)
