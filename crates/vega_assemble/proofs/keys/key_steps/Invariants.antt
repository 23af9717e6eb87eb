use Rattle.std.proofs.Common.{◌≡◌, ◌++◌, drop}
use Rattle.std.specs.List.{flat_map, enumerate_from}
use Rattle.vega_assemble.specs.Keys.{steps_for}
use Rattle.vega_assemble.proofs.keys.key_steps.Given as goal

abbrev pub invariant-loop-place : goal.invariant-loop-place
invariant-loop-place l =
    l.out ++ flat_map (steps_for l.stem l.facet l.unit) (enumerate_from l.place (drop l.place l.field-items))
    ≡ flat_map (steps_for l.stem l.facet l.unit) (enumerate_from 0 l.field-items)
