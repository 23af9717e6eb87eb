use Rattle.std.proofs.Common.{◌≡◌, drop, map}
use Rattle.vl_rules.specs.Folds.{fold_among}
use Rattle.vl_rules.specs.inner.Shown.{led_shown}
use Rattle.vl_rules.proofs.folds.fold_among.Given as goal

abbrev pub invariant-loop-led : goal.invariant-loop-led
invariant-loop-led l =
    fold_among (map led_shown (drop l.led-index l.views)) l.left ≡ fold_among (map led_shown l.views) l.number
