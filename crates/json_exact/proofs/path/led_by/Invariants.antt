use Rattle.std.proofs.Common.{◌≡◌, length}
use Rattle.json_exact.specs.Path.{led_by}
use Rattle.json_exact.specs.inner.Along.{words_after}
use Rattle.json_exact.proofs.path.led_by.Given as goal

abbrev pub invariant-loop-rest : goal.invariant-loop-rest
invariant-loop-rest l = led_by (words_after l.rest) l.here ≡ led_by (words_after l.path) l.tree

abbrev pub decreases-loop-rest : goal.decreases-loop-rest
decreases-loop-rest l = length l.rest
