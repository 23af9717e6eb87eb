use Rattle.std.proofs.Common.{◌∙◌, ap}
use Rattle.plain_windows.specs.inner.Levels.{paired}
use Rattle.plain_windows.proofs.LevelLemmas.{levels_more}
use Rattle.plain_windows.proofs.levels.levels.Goals as goal

pub loop-alloc-preserved : goal.loop-alloc-preserved
loop-alloc-preserved c =
    levels_more c.args.greatest c.args.numbers c.loop-alloc.level c.in_ok-next.next c.loop-alloc.levels c.push.new.self
    (c.in_ok-next.ensures ∙ ap (paired c.args.greatest) c.as_slice.ensures) c.in_ok-push.ensures.ok c.loop-alloc.invariant
