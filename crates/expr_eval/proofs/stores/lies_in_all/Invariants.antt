use Rattle.std.proofs.Common.{◌≡◌, ◌≤◌, ◌+◌, drop}
use Rattle.std.specs.List.{list_all}
use Rattle.expr_eval.specs.Stores.{lies_in}
use Rattle.expr_eval.proofs.stores.lies_in_all.Given as goal

abbrev pub invariant-loop-e : goal.invariant-loop-e
invariant-loop-e g l =
    (list_all (lies_in (g.R.RowReader.cells l.row)) (drop l.e-index l.extents) ≡ list_all (lies_in (g.R.RowReader.cells l.row)) l.extents)
    × (l.initial.steps ≤ l.steps) × (l.steps ≤ l.initial.steps + l.e-index)
