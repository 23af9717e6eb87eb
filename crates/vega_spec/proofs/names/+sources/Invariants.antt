use Rattle.std.proofs.Common.{◌≡◌, ◌++◌, flat_map, map, take}
use Rattle.vega_spec.specs.Names.{mark_sources}
use Rattle.vega_spec.proofs.names.+sources.Given as goal

abbrev pub invariant-push_below-loop-mark : goal.invariant-push_below-loop-mark
invariant-push_below-loop-mark l =
    l.out ≡ l.initial.out ++ flat_map (λ names. names) (map mark_sources (take l.mark-index l.marks))
