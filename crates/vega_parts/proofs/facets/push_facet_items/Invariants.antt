use Rattle.std.proofs.Common.{◌≡◌, ◌++◌, drop, flat_map}
use Rattle.std.specs.Prelude.{reverse}
use Rattle.std.specs.List.{enumerate_from}
use Rattle.vega_parts.specs.Facets.{facet_item, facet_items}
use Rattle.vega_parts.proofs.facets.push_facet_items.Given as goal

abbrev pub invariant-loop-inner : goal.invariant-loop-inner
invariant-loop-inner l = l.out ++ flat_map (facet_item (reverse l.trail) l.number) (enumerate_from l.inner (drop l.inner l.items))
    ≡ l.initial.out ++ facet_items (reverse l.trail) l.number l.items
