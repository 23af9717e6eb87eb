use Rattle.std.proofs.Common.{◌≡◌, ◌++◌, drop}
use Rattle.std.specs.Prelude.{filter_map}
use Rattle.vega_selections.specs.Selections.{selection_in}
use Rattle.vega_selections.proofs.selections.selections_among.Given as goal

abbrev pub invariant-loop-s : goal.invariant-loop-s
invariant-loop-s l = l.out ++ filter_map (selection_in l.marks) (drop l.s-index l.signals) ≡ filter_map (selection_in l.marks) l.signals
