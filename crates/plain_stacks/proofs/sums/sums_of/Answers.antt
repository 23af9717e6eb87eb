use Rattle.std.proofs.Common.{ℤ, to_z, arith}
use mir.Syntax.{w128}
use Rattle.std.proofs.lemmas.Int.{ints}
use Rattle.plain_stacks.specs.inner.Sums.{upward, downward}
use Rattle.plain_stacks.proofs.SumLemmas.{befores_left, sum_left}
use Rattle.plain_stacks.proofs.sums.sums_of.Goals as goal

pub loop-value-preserved : goal.loop-value-preserved
loop-value-preserved c =
    let values = c.args.values.now in
    let at = c.loop-value.value-index in
    let v = c.value-item.result in
    let before = c.loop-value.invariant in
    let ups = sum_left upward values at v c.loop-value-test.true c.value-item.is in
    let downs = sum_left downward values at v c.loop-value-test.true c.value-item.is in
    let up : ℤ = to_z w128 c.loop-value.up-bits in
    let down : ℤ = to_z w128 c.loop-value.down-bits in
    record {
      before =
          befores_left c.args.offset values at v up down _ _ c.loop-value.before c.push.new.self c.chosen.result _ c.loop-value-test.true
          c.value-item.is (omega (arith, ints, c.upward-up.ensures.value, c.upward-up.ensures.bound, before.up_low, before.up_high))
          (omega (arith, ints, c.downward-down.ensures.value, c.downward-down.ensures.bound, before.down_low, before.down_high))
          c.chosen.ensures c.in_ok-push.ensures.ok before.before;
      up = omega (arith, ints, ups, before.up, c.upward-up.ensures.value);
      down = omega (arith, ints, downs, before.down, c.downward-down.ensures.value);
      up_low = omega (arith, ints, before.up_low, c.upward-up.ensures.bound);
      up_high = omega (arith, ints, before.up_high, c.upward-up.ensures.bound);
      down_low = omega (arith, ints, before.down_low, c.downward-down.ensures.bound);
      down_high = omega (arith, ints, before.down_high, c.downward-down.ensures.bound);
    }
