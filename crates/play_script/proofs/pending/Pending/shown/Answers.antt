use Rattle.std.proofs.Common.{ap, ◌∙◌}
use Rattle.play_script.specs.inner.Pending.{without_last_return}
use Rattle.play_script.proofs.Shown.{is_shown}
use Rattle.play_script.proofs.pending.Pending.shown.Goals as goal

pub returns-then-feed : goal.returns-then-feed
returns-then-feed c = λ line kept.
    is_shown c.args.feed c.args.self.now.first.items line _ kept (rw c.if-feed.true (c.without_return.ensures
    ∙ ap without_last_return c.as_slice-first.ensures.value))

pub returns-else-feed : goal.returns-else-feed
returns-else-feed c = λ line kept. is_shown c.args.feed c.args.self.now.first.items line _ kept
    (rw c.if-feed.false c.as_slice-first.ensures.value)
