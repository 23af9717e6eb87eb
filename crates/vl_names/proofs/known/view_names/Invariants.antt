use Rattle.std.proofs.Common.{◌≡◌, ◌++◌, drop, map}
use Rattle.vl_names.specs.Known.{view_names}
use Rattle.vl_names.specs.inner.Shown.{view_shown}
use Rattle.vl_names.proofs.known.view_names.Given as goal

abbrev pub invariant-loop-here : goal.invariant-loop-here
invariant-loop-here l = l.names ++ view_names (map view_shown (drop l.here-index l.views)) ≡ view_names (map view_shown l.views)
