use Rattle.std.proofs.Common.{◌≡◌, ◌+◌, drop}
use Rattle.vega_drawing.specs.inner.Placed.{copies_counted}
use Rattle.vega_drawing.proofs.layouts.count_copies.Given as goal

abbrev pub invariant-loop-copies : goal.invariant-loop-copies
invariant-loop-copies l = l.count + copies_counted (drop l.copies-index l.found) ≡ copies_counted l.found
