use Rattle.std.proofs.Common.{◌≡◌, ◌+◌, ◌++◌, map, drop}
use Rattle.first_form.specs.Bars.{with_ids}
use Rattle.first_form.specs.Opening.{value_row}
use Rattle.first_form.proofs.opening.rows_of.Given as goal

abbrev pub invariant-loop-index : goal.invariant-loop-index
invariant-loop-index l =
    l.rows ++ map (value_row l.x l.y) (with_ids (l.index + 1) (drop l.index l.values)) ≡ map (value_row l.x l.y) (with_ids 1 l.values)
