use Rattle.std.proofs.Common.{◌≡◌, drop, flat_map}
use Rattle.vega_rules.specs.Faults.{sooner, earliest}
use Rattle.vega_rules.specs.Unknown.{unknown_by, unknown}
use Rattle.vega_rules.proofs.uses.sooner_unknown.Given as goal

-- the fault so far and those of the rest
abbrev pub invariant-loop-part : goal.invariant-loop-part
invariant-loop-part l = sooner l.so_far (earliest (flat_map (unknown_by l.parts) (drop l.part-index l.parts)))
    ≡ sooner l.fn.so_far (earliest (unknown l.parts))
