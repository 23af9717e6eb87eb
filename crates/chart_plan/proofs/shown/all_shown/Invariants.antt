use Rattle.std.proofs.Common.{◌≡◌, ◌++◌, drop, map}
use Rattle.std.specs.List.{flat_map}
use Rattle.vl_compose.specs.Shown.{unit_shown}
use Rattle.chart_plan.specs.Shown.{shown_in}
use Rattle.chart_plan.proofs.shown.all_shown.Given as goal

abbrev pub invariant-loop-unit : goal.invariant-loop-unit
invariant-loop-unit l =
    map (λ d. d.now) l.out ++ flat_map (shown_in l.channel l.sharing) (map unit_shown (drop l.unit-index l.units))
    ≡ flat_map (shown_in l.channel l.sharing) (map unit_shown l.units)
