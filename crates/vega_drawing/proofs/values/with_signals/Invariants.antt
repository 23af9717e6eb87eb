use Rattle.std.proofs.Common.{◌≡◌, ◌++◌, ◌∷◌, drop, map}
use Rattle.vega_drawing.proofs.values.with_signals.Given as goal

abbrev pub invariant-loop-other : goal.invariant-loop-other
invariant-loop-other l =
    map (λ level. level.now) l.levels ++ map (λ level. level.now) (drop l.other-index l.outer) ≡ l.signals ∷ map (λ level. level.now) l.outer
