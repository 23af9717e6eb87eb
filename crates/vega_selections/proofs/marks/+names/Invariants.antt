use Rattle.std.proofs.Common.{◌≡◌, ◌++◌, flat_map, map, take}
use Rattle.vega_selections.specs.Marks.{mark_names}
use Rattle.vega_selections.proofs.marks.+names.Given as goal

abbrev pub invariant-push_names_below-loop-mark : goal.invariant-push_names_below-loop-mark
invariant-push_names_below-loop-mark l =
    l.out ≡ l.initial.out ++ flat_map (λ names. names) (map mark_names (take l.mark-index l.marks))
