use Rattle.std.proofs.Common.{◌≡◌, ◌+◌, ◌-◌, ◌++◌, ◌+ℤ◌, arith, ap, ◌∙◌}
use Rattle.std.proofs.lemmas.Int.{ints}
use Rattle.tick_kit.specs.Ticks.{numbers_apart}
use Rattle.tick_kit.proofs.TickLemmas.{pushed, all_pushed, last_one, still_below}
use Rattle.tick_kit.proofs.multiples.numbers_apart.Goals as goal

pub returns-in_default : goal.returns-in_default
returns-in_default c =
    let here = c.loop-turn.invariant in
    let end = last_one c.args.n c.loop-turn._turn c.args.step c.loop-turn.at c.loop-turn-test.true c.requires.some here.low here.high c.in_default.ensures in
    all_pushed c.args.n (c.loop-turn._turn + 1) c.args.step (c.loop-turn.at +ℤ c.args.step) _ _ end
    (pushed c.args.n c.loop-turn._turn c.args.step c.loop-turn.at _ _ _ c.loop-turn-test.true here.ticks c.in_ok-push.ensures.ok)

pub loop-turn-preserved : goal.loop-turn-preserved
loop-turn-preserved c =
    let here = c.loop-turn.invariant in
    let is : c.in-Some.next ≡ c.loop-turn.at +ℤ c.args.step = c.in-Some.ensures.1 in
    let from = here.low in let some = c.requires.some in
    record {
      low = omega (arith, ints, from, some, is);
      high = still_below c.args.n c.loop-turn._turn c.args.step c.loop-turn.at c.in-Some.next c.loop-turn-test.true here.high is;
      ticks =
          ap (λ z. c.push.new.self ++ numbers_apart (c.args.n - (c.loop-turn._turn + 1)) c.args.step z) is
          ∙ pushed c.args.n c.loop-turn._turn c.args.step c.loop-turn.at _ _ _ c.loop-turn-test.true here.ticks c.in_ok-push.ensures.ok;
    }
