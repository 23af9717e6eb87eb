use Rattle.std.proofs.Common.{◌≡◌, ◌++◌, drop, map}
use Rattle.std.specs.List.{enumerate_from}
use Rattle.vega_assemble.specs.Domains.{own_referred}
use Rattle.vega_assemble.proofs.domains.all_own.Given as goal

abbrev pub invariant-loop-place : goal.invariant-loop-place
invariant-loop-place l =
    l.out ++ map (own_referred l.stem l.scale) (enumerate_from l.place (drop l.place l.columns))
    ≡ map (own_referred l.stem l.scale) (enumerate_from 0 l.columns)
