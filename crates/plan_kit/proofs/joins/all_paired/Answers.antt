use Rattle.std.proofs.Common.{◌≡◌, ◌<◌, length, arith}
use Rattle.plan_kit.proofs.JoinLemmas.{short_is_all, no_round, one_round}
use Rattle.plan_kit.proofs.joins.all_paired.Goals as goal

pub returns-then-len-lt2 : goal.returns-then-len-lt2
returns-then-len-lt2 c =
    let few : length c.loop-times.left < 2 = omega (arith, c.len.ensures, c.if-len-lt2.true) in
    short_is_all c.args.op c.loop-times.times c.loop-times.left _ few c.loop-times.invariant

pub loop-times-preserved : goal.loop-times-preserved
loop-times-preserved c =
    one_round c.args.op c.loop-times.times c.loop-times.left c.in_ok-left.left _ c.loop-times-test.true c.in_ok-left.ensures c.loop-times.invariant

pub returns : goal.returns
returns c =
    let none : c.loop-times.times ≡ 0 = omega (arith, c.loop-times-test.false) in
    no_round c.args.op c.loop-times.times c.loop-times.left _ none c.loop-times.invariant
