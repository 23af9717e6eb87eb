use Rattle.std.proofs.Common.{◌≡◌, ◌++◌, drop, map}
use Rattle.vl_rules.specs.Standings.{standing_at}
use Rattle.vl_rules.specs.inner.Shown.{part_shown}
use Rattle.vl_rules.proofs.standings.standings.Given as goal

abbrev pub invariant-loop-part : goal.invariant-loop-part
invariant-loop-part l =
    l.all ++ map (standing_at l.code) (map part_shown (drop l.part-index l.parts)) ≡ map (standing_at l.code) (map part_shown l.parts)
