use Rattle.std.proofs.Common.{◌≡◌, drop, map}
use Rattle.std.specs.List.{fold}
use Rattle.vl_rules.specs.Leads.{LedAt, last_trail}
use Rattle.vl_rules.specs.inner.Shown.{led_shown}
use Rattle.vl_rules.proofs.leads.last_trail.Given as goal

abbrev pub invariant-loop-led : goal.invariant-loop-led
invariant-loop-led l =
    fold (λ trail (x : LedAt). x.trail) l.trail (map led_shown (drop l.led-index l.views)) ≡ last_trail (map led_shown l.views)
