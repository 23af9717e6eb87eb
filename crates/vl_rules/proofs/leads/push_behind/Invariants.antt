use Rattle.std.proofs.Common.{◌≡◌, [], ◌++◌, drop, map}
use Rattle.vl_compose.specs.Shown.{kind_of, round_shown}
use Rattle.vl_rules.specs.Leads.{led_from}
use Rattle.vl_rules.specs.inner.Shown.{led_shown}
use Rattle.vl_rules.proofs.leads.push_behind.Given as goal

abbrev pub invariant-loop-here : goal.invariant-loop-here
invariant-loop-here l =
    map led_shown l.views ++ led_from l.trail (kind_of l.outer) (round_shown (drop l.here-index l.inside))
    ≡ map led_shown l.fn.views ++ led_from [] (kind_of l.top) (round_shown l.inside)
