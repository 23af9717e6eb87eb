use Rattle.plain_windows.proofs.LevelLemmas.{pairs_more}
use Rattle.plain_windows.proofs.levels.paired.Goals as goal

pub loop-at-preserved : goal.loop-at-preserved
loop-at-preserved c =
    pairs_more c.args.greatest c.args.level.now c.loop-at.next c.push.new.self c.loop-at.at c.number_at.result c.number_at-in-loop-at.result
    c.joined.result c.loop-at-test.true c.number_at.ensures c.number_at-in-loop-at.ensures c.joined.ensures c.in_ok-push.ensures.ok c.loop-at.invariant
