use Rattle.std.proofs.Common.{◌≡◌, drop}
use Rattle.std.specs.List.{list_all}
use Rattle.selection_rules.specs.Tested.{is_kept}
use Rattle.selection_rules.proofs.tested.each_is_kept.Given as goal

abbrev pub invariant-loop-v : goal.invariant-loop-v
invariant-loop-v l = list_all is_kept (drop l.v-index l.selections) ≡ list_all is_kept l.selections
