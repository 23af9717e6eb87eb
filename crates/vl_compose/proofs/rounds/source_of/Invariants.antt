use Rattle.std.proofs.Common.{◌≡◌, drop}
use Rattle.std.specs.Option.{option_map}
use Rattle.std.specs.List.{filter_map, last_or}
use Rattle.vl_compose.specs.Shown.{round_shown}
use Rattle.vl_compose.specs.Views.{source_of}
use Rattle.vl_compose.proofs.rounds.source_of.Given as goal

abbrev pub invariant-loop-here : goal.invariant-loop-here
invariant-loop-here l =
    last_or (option_map (λ name. name.now) l.source) (filter_map (λ v. v.data_) (drop l.here-index (round_shown l.round))) ≡ source_of (round_shown l.round)
