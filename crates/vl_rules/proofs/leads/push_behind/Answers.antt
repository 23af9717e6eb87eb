use Rattle.std.proofs.Common.{[], ◌∷◌, ◌++◌, map, ap, ◌∙◌}
use Rattle.vl_compose.specs.Shown.{view_shown}
use Rattle.vl_rules.specs.inner.Shown.{led_at, led_shown}
use Rattle.vl_rules.proofs.LeadLemmas.{led_more}
use Rattle.vl_rules.proofs.leads.push_behind.Goals as goal

pub loop-here-preserved : goal.loop-here-preserved
loop-here-preserved c =
    led_more c.args.inside.now c.loop-here.here-index c.here-item.result _ _ _ _ _ _ c.loop-here-test.true c.here-item.is
    c.in_ok-push_view_steps.ensures (c.in_ok-push_led.ensures
    ∙ ap (λ t. map led_shown c.loop-here.views ++ led_at t (view_shown c.here-item.result) ∷ []) c.as_slice.ensures) c.loop-here.invariant
