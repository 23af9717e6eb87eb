use Rattle.std.proofs.Common.{◌≡◌, drop}
use Rattle.std.specs.Option.{option_map}
use Rattle.std.specs.List.{last_or}
use Rattle.vl_compose.specs.Shown.{round_shown, view_shown}
use Rattle.vl_compose.specs.Units.{last_view}
use Rattle.vl_rules.proofs.standings.last_view.Given as goal

abbrev pub invariant-loop-here : goal.invariant-loop-here
invariant-loop-here l =
    last_or (option_map view_shown l.last) (round_shown (drop l.here-index l.round)) ≡ last_view (round_shown l.round)
