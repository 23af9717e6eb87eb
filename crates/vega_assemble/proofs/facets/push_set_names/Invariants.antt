use Rattle.std.proofs.Common.{◌≡◌, ◌++◌, drop}
use Rattle.vega_assemble.specs.Facets.{names_of_sets}
use Rattle.vega_assemble.proofs.facets.push_set_names.Given as goal

abbrev pub invariant-loop-set : goal.invariant-loop-set
invariant-loop-set l =
    l.out ++ names_of_sets (drop l.set-index l.sets) ≡ l.fn.out ++ names_of_sets l.sets
