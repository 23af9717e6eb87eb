use Rattle.std.proofs.Common.{◌≡◌, drop}
use Rattle.chart_plan.specs.Domains.{named_kind}
use Rattle.chart_plan.proofs.domains.named_kind.Given as goal

abbrev pub invariant-loop-param : goal.invariant-loop-param
invariant-loop-param l =
    named_kind (drop l.param-index l.params) l.name ≡ named_kind l.params l.name
