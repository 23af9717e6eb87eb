use Rattle.std.proofs.Common.{◌≡◌, drop, flat_map, map}
use Rattle.spec_schema.specs.Order.{earlier}
use Rattle.vl_names.specs.inner.Shown.{view_shown}
use Rattle.vl_trails.specs.Faults.{earliest_placed}
use Rattle.vl_rules.specs.Views.{faults_of_view}
use Rattle.vl_rules.proofs.views.sooner_views.Given as goal

abbrev pub invariant-loop-here : goal.invariant-loop-here
invariant-loop-here l =
    earlier l.so_far (earliest_placed l.tree (flat_map (faults_of_view l.tree l.first l.params l.offers) (map view_shown (drop l.here-index l.views))))
    ≡ earlier l.fn.so_far (earliest_placed l.tree (flat_map (faults_of_view l.tree l.first l.params l.offers) (map view_shown l.views)))
