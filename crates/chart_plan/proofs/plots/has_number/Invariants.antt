use Rattle.std.proofs.Common.{◌≡◌, ◌==◌, drop}
use Rattle.std.specs.List.{list_any}
use Rattle.chart_plan.proofs.plots.has_number.Given as goal

abbrev pub invariant-loop-one : goal.invariant-loop-one
invariant-loop-one l =
    list_any (λ m. m == l.number) (drop l.one-index l.numbers) ≡ list_any (λ m. m == l.number) l.numbers
