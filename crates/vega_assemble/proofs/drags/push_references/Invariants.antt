use Rattle.std.proofs.Common.{◌≡◌, ◌++◌, drop, map}
use Rattle.std.specs.List.{enumerate_from}
use Rattle.vega_assemble.specs.Drags.{outer_list}
use Rattle.vega_assemble.proofs.drags.push_references.Given as goal

abbrev pub invariant-loop-place : goal.invariant-loop-place
invariant-loop-place l =
    l.out ++ map (outer_list l.stem l.number) (enumerate_from l.place (drop l.place l.references))
    ≡ l.fn.out ++ map (outer_list l.stem l.number) (enumerate_from 0 l.references)
