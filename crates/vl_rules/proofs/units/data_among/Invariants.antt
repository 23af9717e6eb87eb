use Rattle.std.proofs.Common.{◌≡◌, drop, map}
use Rattle.vl_rules.specs.Units.{data_among}
use Rattle.vl_rules.specs.inner.Shown.{led_shown}
use Rattle.vl_rules.proofs.units.data_among.Given as goal

abbrev pub invariant-loop-led : goal.invariant-loop-led
invariant-loop-led l =
    data_among l.tree (map led_shown (drop l.led-index l.views)) l.own ≡ data_among l.tree (map led_shown l.views) l.own
