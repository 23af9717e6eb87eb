use Rattle.std.proofs.Common.{◌≡◌, ◌-◌, ◌++◌, pos, neg_ℤ, ◌+ℤ◌, ◌*ℤ◌, ◌≤ℤ◌}
use Rattle.fixed_num.specs.Number.{limit}
use Rattle.tick_kit.specs.Ticks.{numbers_apart}
use Rattle.tick_kit.proofs.multiples.numbers_apart.Given as goal

abbrev pub invariant-loop-turn : goal.invariant-loop-turn
invariant-loop-turn l = record {
  low : neg_ℤ (pos limit) ≤ℤ l.at;
  high : (l.at +ℤ pos (l.n - l._turn) *ℤ l.step) ≤ℤ (pos limit +ℤ l.step);
  ticks : l.ticks ++ numbers_apart (l.n - l._turn) l.step l.at ≡ numbers_apart l.n l.step l.fn.first;
}
