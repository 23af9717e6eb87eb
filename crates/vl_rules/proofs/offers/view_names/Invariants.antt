use Rattle.std.proofs.Common.{◌≡◌, ◌++◌, drop}
use Rattle.std.specs.Prelude.{filter_map}
use Rattle.vl_compose.specs.Shown.{round_shown}
use Rattle.vl_rules.proofs.offers.view_names.Given as goal

abbrev pub invariant-loop-here : goal.invariant-loop-here
invariant-loop-here l =
    l.names ++ filter_map (λ v. v.name) (round_shown (drop l.here-index l.round)) ≡ filter_map (λ v. v.name) (round_shown l.round)
