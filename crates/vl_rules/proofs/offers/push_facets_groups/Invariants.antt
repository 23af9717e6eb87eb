use Rattle.std.proofs.Common.{◌≡◌, ◌++◌, drop, flat_map}
use Rattle.vl_rules.specs.Offers.{facet_groups}
use Rattle.vl_rules.specs.inner.Shown.{marked_shown}
use Rattle.vl_rules.proofs.offers.push_facets_groups.Given as goal

abbrev pub invariant-loop-code : goal.invariant-loop-code
invariant-loop-code l =
    l.out ++ flat_map (facet_groups (marked_shown l.unit)) (drop l.code-index l.codes) ≡ l.fn.out ++ flat_map (facet_groups (marked_shown l.unit)) l.codes
