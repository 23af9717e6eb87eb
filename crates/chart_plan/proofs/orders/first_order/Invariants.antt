use Rattle.std.proofs.Common.{◌≡◌, drop, map}
use Rattle.vl_compose.specs.Shown.{unit_shown}
use Rattle.guide_infer.specs.First.{first_given}
use Rattle.chart_plan.specs.Orders.{order_in}
use Rattle.chart_plan.proofs.orders.first_order.Given as goal

abbrev pub invariant-loop-definition : goal.invariant-loop-definition
invariant-loop-definition l =
    first_given (order_in (unit_shown l.unit) l.channel) (map (λ d. d.now) (drop l.definition-index l.definitions))
    ≡ first_given (order_in (unit_shown l.unit) l.channel) (map (λ d. d.now) l.definitions)
