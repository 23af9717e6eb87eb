use Rattle.std.proofs.Common.{◌≡◌, ◌++◌, drop}
use Rattle.vega_assemble.specs.Mentioned.{in_sort}
use Rattle.vega_assemble.proofs.steps.sorted_fields.Given as goal

abbrev pub invariant-loop-one : goal.invariant-loop-one
invariant-loop-one l =
    l.out ++ in_sort (drop l.one-index l.by) ≡ in_sort l.by
