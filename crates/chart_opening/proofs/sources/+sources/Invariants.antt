use Rattle.std.proofs.Common.{◌≡◌, ◌++◌, flat_map, map, take}
use Rattle.chart_opening.specs.Sources.{mark_sets}
use Rattle.chart_opening.proofs.sources.+sources.Given as goal

abbrev pub invariant-push_below-loop-mark : goal.invariant-push_below-loop-mark
invariant-push_below-loop-mark l =
    map (λ s. s.now) l.sets.items
    ≡ map (λ s. s.now) l.initial.sets.items ++ flat_map (λ sets. sets) (map mark_sets (take l.mark-index l.marks))
