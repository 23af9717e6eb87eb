use Rattle.std.proofs.Common.{◌≡◌, ◌++◌, drop, map}
use Rattle.std.specs.List.{enumerate_from}
use Rattle.vega_assemble.specs.Domains.{plainly_referred}
use Rattle.vega_assemble.proofs.domains.all_plainly.Given as goal

abbrev pub invariant-loop-place : goal.invariant-loop-place
invariant-loop-place l =
    l.out ++ map (plainly_referred l.stem l.scale) (enumerate_from l.place (drop l.place l.columns))
    ≡ map (plainly_referred l.stem l.scale) (enumerate_from 0 l.columns)
