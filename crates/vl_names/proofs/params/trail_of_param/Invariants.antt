use Rattle.std.proofs.Common.{◌≡◌, drop, map}
use Rattle.vl_names.specs.Params.{trail_of_param}
use Rattle.vl_names.specs.inner.Shown.{view_shown}
use Rattle.vl_names.proofs.params.trail_of_param.Given as goal

abbrev pub invariant-loop-here : goal.invariant-loop-here
invariant-loop-here l = trail_of_param (map view_shown (drop l.here-index l.views)) l.number ≡ trail_of_param (map view_shown l.views) l.number
