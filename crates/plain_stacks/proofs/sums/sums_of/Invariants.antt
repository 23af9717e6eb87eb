use Rattle.std.proofs.Common.{◌≡◌, ◌++◌, ◌*◌, drop, pos, neg_ℤ, ◌+ℤ◌, ◌≤ℤ◌, map}
use Rattle.fixed_num.specs.Number.{limit}
use Rattle.plain_groups.specs.Aggregates.{sum_of}
use Rattle.plain_stacks.specs.inner.Sums.{upward, downward, befores}
use Rattle.plain_stacks.proofs.sums.sums_of.Given as goal

abbrev pub invariant-loop-value : goal.invariant-loop-value
invariant-loop-value l = record {
  before : l.before ++ befores l.offset l.up l.down (drop l.value-index l.values) ≡ befores l.offset (pos 0) (pos 0) l.values;
  up : l.up +ℤ sum_of (map upward (drop l.value-index l.values)) ≡ sum_of (map upward l.values);
  down : l.down +ℤ sum_of (map downward (drop l.value-index l.values)) ≡ sum_of (map downward l.values);
  up_low : pos 0 ≤ℤ l.up;
  up_high : l.up ≤ℤ pos (l.value-index * limit);
  down_low : neg_ℤ (pos (l.value-index * limit)) ≤ℤ l.down;
  down_high : l.down ≤ℤ pos 0;
}
