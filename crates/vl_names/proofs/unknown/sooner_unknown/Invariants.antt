use Rattle.std.proofs.Common.{◌≡◌, drop, map}
use Rattle.spec_schema.specs.Order.{earlier}
use Rattle.vl_trails.specs.Faults.{earliest_placed}
use Rattle.vl_names.specs.Unknown.{unknown_in_views}
use Rattle.vl_names.specs.inner.Looked.{known_shown}
use Rattle.vl_names.specs.inner.Shown.{view_shown}
use Rattle.vl_names.proofs.unknown.sooner_unknown.Given as goal

abbrev pub invariant-loop-here : goal.invariant-loop-here
invariant-loop-here l =
    earlier l.so_far (earliest_placed l.tree (unknown_in_views (known_shown l.known) (map view_shown (drop l.here-index l.views))))
    ≡ earlier l.fn.so_far (earliest_placed l.tree (unknown_in_views (known_shown l.known) (map view_shown l.views)))
