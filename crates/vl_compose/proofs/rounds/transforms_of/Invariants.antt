use Rattle.std.proofs.Common.{◌≡◌, ◌++◌, drop, map}
use Rattle.vl_compose.specs.Shown.{round_shown}
use Rattle.vl_compose.specs.Views.{transforms_of}
use Rattle.vl_compose.proofs.rounds.transforms_of.Given as goal

abbrev pub invariant-loop-here : goal.invariant-loop-here
invariant-loop-here l =
    map (λ t. t.now) l.transforms ++ transforms_of (drop l.here-index (round_shown l.round)) ≡ transforms_of (round_shown l.round)
