use Rattle.std.proofs.Common.{◌≡◌, drop}
use Rattle.chart_plan.specs.Sizes.{said_size}
use Rattle.chart_plan.proofs.sizes.said_size.Given as goal

abbrev pub invariant-loop-size : goal.invariant-loop-size
invariant-loop-size l =
    said_size l.continuous l.scale (drop l.size-index l.sizes) ≡ said_size l.continuous l.scale l.sizes
