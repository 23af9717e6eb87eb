use Rattle.std.proofs.Common.{◌≡◌, ℕ, drop, take, flat_map}
use Rattle.std.specs.List.{enumerate_from}
use Rattle.vega_parts.specs.declared.part.Part.{Part}
use Rattle.vega_rules.specs.Faults.{sooner, earliest}
use Rattle.vega_rules.specs.Twice.{repeated, twice}
use Rattle.vega_rules.proofs.twice.sooner_twice.Given as goal

-- the fault so far and those of the rest
abbrev pub invariant-loop-number : goal.invariant-loop-number
invariant-loop-number l =
    sooner l.so_far (earliest (flat_map (λ (row : ℕ × Part). repeated (take row.0 l.parts) row.1) (enumerate_from l.number
    (drop l.number l.parts))))
    ≡ sooner l.fn.so_far (earliest (twice l.parts))
