use Rattle.std.proofs.Common.{◌≡◌, ◌++◌, drop, flat_map}
use Rattle.std.specs.Prelude.{reverse}
use Rattle.std.specs.List.{enumerate_from}
use Rattle.vega_parts.specs.Names.{used_item, used_items}
use Rattle.vega_parts.proofs.names.push_used_items.Given as goal

abbrev pub invariant-loop-inner : goal.invariant-loop-inner
invariant-loop-inner l =
    l.out ++ flat_map (used_item l.kind (reverse l.object) (reverse l.trail) l.number) (enumerate_from l.inner (drop l.inner l.items))
    ≡ l.initial.out ++ used_items l.kind (reverse l.object) (reverse l.trail) l.number l.items
