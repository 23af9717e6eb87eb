use Rattle.std.proofs.Common.{◌≡◌, ◌++◌, drop}
use Rattle.vl_compose.specs.Shown.{round_shown}
use Rattle.vl_compose.specs.Views.{facets_of}
use Rattle.vl_compose.proofs.rounds.facets_of.Given as goal

abbrev pub invariant-loop-here : goal.invariant-loop-here
invariant-loop-here l = round_shown l.facets ++ facets_of (drop l.here-index (round_shown l.round)) ≡ facets_of (round_shown l.round)
