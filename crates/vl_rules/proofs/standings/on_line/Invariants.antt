use Rattle.std.proofs.Common.{◌≡◌, drop}
use Rattle.vl_rules.specs.Standings.{on_line}
use Rattle.vl_rules.proofs.standings.on_line.Given as goal

abbrev pub invariant-loop-standing : goal.invariant-loop-standing
invariant-loop-standing l =
    on_line (drop l.standing-index l.standings) l.home ≡ on_line l.standings l.home
