use Rattle.std.proofs.Common.{◌≡◌, ◌++◌, drop, map}
use Rattle.vl_rules.specs.Selections.{below}
use Rattle.vl_rules.proofs.selections.below.Given as goal

abbrev pub invariant-loop-offer : goal.invariant-loop-offer
invariant-loop-offer l =
    map (λ o. o.now) l.inside ++ below l.trail (drop l.offer-index l.offers) ≡ below l.trail l.offers
