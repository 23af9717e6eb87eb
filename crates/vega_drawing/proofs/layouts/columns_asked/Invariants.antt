use Rattle.std.proofs.Common.{◌≡◌, drop}
use Rattle.vega_drawing.specs.inner.Placed.{columns_found}
use Rattle.vega_drawing.proofs.layouts.columns_asked.Given as goal

abbrev pub invariant-loop-copies : goal.invariant-loop-copies
invariant-loop-copies l = columns_found (drop l.copies-index l.found) ≡ columns_found l.found
