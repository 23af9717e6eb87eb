use Rattle.std.proofs.Common.{◌≡◌, ◌≤◌, ◌*◌, arith, sym, ap, ◌∙◌, rules, find}
use Rattle.std.proofs.lemmas.Grind.{pow_more}
use Rattle.fixed_num.specs.Number.{limit}
use Rattle.tick_kit.specs.Steps.{steps_below}
use Rattle.tick_kit.proofs.StepLemmas.{is_taken, spaced_taken, spaced_none, steps_passed, power_in_reach}
use Rattle.tick_kit.proofs.steps.spaced.Goals as goal

pub spaced_at-requires-clause-power_in_reach : goal.spaced_at-requires-clause-power_in_reach
spaced_at-requires-clause-power_in_reach c =
    omega (arith, c.loop-turn.invariant.power, power_in_reach c.loop-turn._turn c.loop-turn-test.true)

pub returns-in-Some-clause-value : goal.returns-in-Some-clause-value
returns-in-Some-clause-value c =
    spaced_taken c.args.span c.args.count c.loop-turn._turn c.loop-turn.power c.in-Some.step c.loop-turn-test.true
    c.loop-turn.invariant.power c.loop-turn.invariant.none c.in-Some.ensures.value

pub overflow_mul-power : goal.overflow_mul-power
overflow_mul-power c =
    let bound : c.loop-turn.power ≤ 10 * limit =
    omega (arith, c.loop-turn.invariant.power, power_in_reach c.loop-turn._turn c.loop-turn-test.true) in
    search rules

pub returns-clause-value : goal.returns-clause-value
returns-clause-value c =
    let end : c.loop-turn._turn ≡ 23 = omega arith in
    spaced_none c.args.span c.args.count (ap (λ n. find (is_taken c.args.span c.args.count) (steps_below n)) (sym end)
    ∙ c.loop-turn.invariant.none)

pub loop-turn-preserved : goal.loop-turn-preserved
loop-turn-preserved c =
    let span : c.args.span ≤ 2 * limit = c.requires.span_in_reach in
    let passed : c.loop-turn.power * c.args.count ≤ c.args.span = c.in_default.ensures.passed in
    record {
      power = omega (arith, c.loop-turn.invariant.power, pow_more 10 c.loop-turn._turn);
      parts = omega (arith, passed, span);
      none =
          steps_passed (is_taken c.args.span c.args.count) c.loop-turn._turn c.loop-turn.power c.loop-turn.invariant.power
          c.loop-turn.invariant.none c.in_default.ensures.value;
    }
