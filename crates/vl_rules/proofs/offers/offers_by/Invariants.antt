use Rattle.std.proofs.Common.{◌≡◌, ◌++◌, drop, map}
use Rattle.vl_rules.specs.Offers.{offer_among}
use Rattle.vl_rules.specs.inner.Shown.{part_shown}
use Rattle.vl_rules.proofs.offers.offers_by.Given as goal

abbrev pub invariant-loop-part : goal.invariant-loop-part
invariant-loop-part l =
    l.offers ++ map (offer_among l.across l.down) (map part_shown (drop l.part-index l.parts)) ≡ map (offer_among l.across l.down) (map part_shown l.parts)
