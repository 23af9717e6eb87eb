use Rattle.std.proofs.Common.{map, ◌∙◌}
use Rattle.vl_normalize.specs.Channels.{with_around}
use Rattle.vl_rules.proofs.ChannelLemmas.{one_more_view}
use Rattle.vl_rules.proofs.marked.channels_at.Goals as goal

pub loop-here-preserved : goal.loop-here-preserved
loop-here-preserved c = one_more_view _ _ _ _ _ _ c.loop-here-test.true c.here-item.is
    (c.in_ok-channels.ensures ∙ (λ i. with_around (c.own_channels.ensures i) (map (λ x. x.now) (c.as_slice.ensures i)))) c.loop-here.invariant
