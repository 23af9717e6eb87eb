use Rattle.std.proofs.Common.{arith, ◌≡◌, ◌-◌, ◌+◌, Some, sym, ap, ◌∙◌, rules}
use Rattle.tick_kit.specs.Steps.{widened_times}
use Rattle.tick_kit.proofs.StepLemmas.{widened_times_more, widened_times_stays}
use Rattle.tick_kit.proofs.steps.nice.Goals as goal

pub returns-then-eq-2-clause-value : goal.returns-then-eq-2-clause-value
returns-then-eq-2-clause-value c =
    let same : c.in_ok-wider.wider ≡ c.loop-turn.domain = search rules in
    let stays = widened_times_stays (10 - c.loop-turn._turn) c.args.count c.loop-turn.domain (sym c.in_ok-wider.ensures.value
    ∙ ap Some same) in
    sym (c.loop-turn.invariant.1 ∙ stays)

pub loop-turn-preserved : goal.loop-turn-preserved
loop-turn-preserved c = (
  c.in_ok-wider.ensures.ordered,
  c.loop-turn.invariant.1 ∙ widened_times_more (10 - c.loop-turn._turn) (10 - (c.loop-turn._turn + 1)) c.args.count c.loop-turn.domain
      (Some c.in_ok-wider.wider) (omega arith) c.in_ok-wider.ensures.value,
)

pub returns-clause-value : goal.returns-clause-value
returns-clause-value c =
    let end : 10 - c.loop-turn._turn ≡ 0 = omega arith in
    sym (c.loop-turn.invariant.1 ∙ ap (λ k. widened_times k c.args.count c.loop-turn.domain) end)
