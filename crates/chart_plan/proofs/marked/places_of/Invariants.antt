use Rattle.std.proofs.Common.{◌≡◌, ◌++◌, drop, map}
use Rattle.std.specs.List.{enumerate_from, filter_map}
use Rattle.vl_compose.specs.Shown.{unit_shown}
use Rattle.chart_plan.specs.inner.Marked.{place_if, places_of}
use Rattle.chart_plan.proofs.marked.places_of.Given as goal

abbrev pub invariant-loop-place : goal.invariant-loop-place
invariant-loop-place l =
    l.places ++ filter_map (place_if l.marks l.number l.selection) (enumerate_from l.place (map unit_shown (drop l.place l.units)))
    ≡ places_of l.marks l.number l.selection (map unit_shown l.units)
