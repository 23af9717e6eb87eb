use Rattle.std.proofs.Common.{◌≡◌, drop, flat_map}
use Rattle.vega_rules.specs.Faults.{sooner, earliest}
use Rattle.vega_rules.specs.Below.{below_by, below}
use Rattle.vega_rules.proofs.below.sooner_by_met.Given as goal

-- the fault so far and those of the rest
abbrev pub invariant-loop-number : goal.invariant-loop-number
invariant-loop-number l = sooner l.so_far (earliest (flat_map (below_by l.parts) (drop l.number l.parts)))
    ≡ sooner l.fn.so_far (earliest (below l.parts))
