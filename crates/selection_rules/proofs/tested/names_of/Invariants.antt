use Rattle.std.proofs.Common.{◌≡◌, ◌++◌, map, drop}
use Rattle.vega_selections.specs.Kept.{selection_name}
use Rattle.selection_rules.proofs.tested.names_of.Given as goal

abbrev pub invariant-loop-v : goal.invariant-loop-v
invariant-loop-v l = l.names ++ map selection_name (drop l.v-index l.selections) ≡ map selection_name l.selections
