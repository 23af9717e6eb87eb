use Rattle.std.proofs.Common.{◌≡◌, ◌-◌, ◌++◌}
use Rattle.tick_kit.specs.Steps.{span_of}
use Rattle.tick_kit.specs.inner.Boundaries.{boundaries_after}
use Rattle.tick_kit.proofs.boundaries.push_boundaries.Given as goal

abbrev pub invariant-loop-turn : goal.invariant-loop-turn
invariant-loop-turn l =
    l.ticks ++ boundaries_after (span_of (l.fn.lo, l.hi) - l._turn) l.unit l.n l.hi l.at
    ≡ l.fn.ticks ++ boundaries_after (span_of (l.fn.lo, l.hi)) l.unit l.n l.hi l.fn.lo
