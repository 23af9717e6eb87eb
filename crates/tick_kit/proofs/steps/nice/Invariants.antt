use Rattle.std.proofs.Common.{◌≡◌, ◌-◌, ◌≤ℤ◌}
use Rattle.tick_kit.specs.Steps.{nice_of, widened_times}
use Rattle.tick_kit.proofs.steps.nice.Given as goal

abbrev pub invariant-loop-turn : goal.invariant-loop-turn
invariant-loop-turn l =
    (l.domain.0 ≤ℤ l.domain.1) × (nice_of l.count (l.fn.lo, l.fn.hi) ≡ widened_times (10 - l._turn) l.count l.domain)
