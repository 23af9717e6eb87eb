use Rattle.std.proofs.Common.{◌≡◌, drop, map}
use Rattle.vl_compose.specs.Shown.{unit_shown}
use Rattle.guide_infer.specs.First.{first_given}
use Rattle.chart_plan.specs.Orders.{unit_order}
use Rattle.chart_plan.proofs.orders.order_of.Given as goal

abbrev pub invariant-loop-unit : goal.invariant-loop-unit
invariant-loop-unit l =
    first_given (unit_order l.channel l.sharing) (map unit_shown (drop l.unit-index l.units))
    ≡ first_given (unit_order l.channel l.sharing) (map unit_shown l.units)
