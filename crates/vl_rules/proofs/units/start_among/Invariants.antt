use Rattle.std.proofs.Common.{◌≡◌, drop, map}
use Rattle.vl_rules.specs.Units.{start_among}
use Rattle.vl_rules.specs.inner.Shown.{led_shown}
use Rattle.vl_rules.proofs.units.start_among.Given as goal

abbrev pub invariant-loop-led : goal.invariant-loop-led
invariant-loop-led l =
    start_among l.tree (map led_shown (drop l.led-index l.views)) l.code l.fn.otherwise ≡ start_among l.tree (map led_shown l.views) l.code l.fn.otherwise
