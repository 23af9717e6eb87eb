use Rattle.std.proofs.Common.{◌≡◌, ◌++◌, drop}
use Rattle.vl_compose.specs.Shown.{kind_of, round_shown}
use Rattle.vl_compose.specs.Views.{path_from}
use Rattle.vl_compose.proofs.rounds.path_from.Given as goal

abbrev pub invariant-loop-here : goal.invariant-loop-here
invariant-loop-here l = l.path ++ path_from (kind_of l.outer) (drop l.here-index (round_shown l.inside)) ≡ path_from (kind_of l.top) (round_shown l.inside)
