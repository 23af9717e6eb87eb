use Rattle.std.proofs.Common.{◌≡◌, ◌++◌, drop, map}
use Rattle.std.specs.Prelude.{filter_map}
use Rattle.vl_compose.specs.Shown.{round_shown}
use Rattle.vl_rules.specs.Parts.{view_part}
use Rattle.vl_rules.proofs.meant.push_round.Given as goal

abbrev pub invariant-loop-here : goal.invariant-loop-here
invariant-loop-here l =
    map (λ c. c.now) l.out ++ filter_map (λ v. view_part l.code v.kind) (round_shown (drop l.here-index l.round))
    ≡ map (λ c. c.now) l.fn.out ++ filter_map (λ v. view_part l.code v.kind) (round_shown l.round)
