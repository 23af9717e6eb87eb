use Rattle.std.proofs.Common.{◌≡◌, ◌++◌, drop, map}
use Rattle.vl_names.specs.Given.{views_given}
use Rattle.vl_names.specs.inner.Shown.{view_shown}
use Rattle.vl_names.proofs.given.views_given.Given as goal

abbrev pub invariant-loop-here : goal.invariant-loop-here
invariant-loop-here l = l.out ++ views_given (map view_shown (drop l.here-index l.views)) ≡ views_given (map view_shown l.views)
