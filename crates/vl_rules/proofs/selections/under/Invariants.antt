use Rattle.std.proofs.Common.{◌≡◌, ◌++◌, drop, map}
use Rattle.std.specs.Prelude.{filter}
use Rattle.vl_rules.specs.Selections.{is_under}
use Rattle.vl_rules.proofs.selections.under.Given as goal

abbrev pub invariant-loop-offer : goal.invariant-loop-offer
invariant-loop-offer l =
    map (λ o. o.now) l.units ++ filter (is_under l.names) (drop l.offer-index l.offers) ≡ filter (is_under l.names) l.offers
