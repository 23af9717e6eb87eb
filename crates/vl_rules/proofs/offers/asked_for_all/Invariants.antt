use Rattle.std.proofs.Common.{◌≡◌, ◌++◌, drop, map}
use Rattle.vl_rules.specs.Offers.{asked_at}
use Rattle.vl_rules.specs.inner.Shown.{part_shown}
use Rattle.vl_rules.proofs.offers.asked_for_all.Given as goal

abbrev pub invariant-loop-code : goal.invariant-loop-code
invariant-loop-code l =
    l.all ++ map (asked_at (part_shown l.part)) (drop l.code-index l.codes) ≡ map (asked_at (part_shown l.part)) l.codes
