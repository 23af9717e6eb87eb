use Rattle.std.proofs.Common.{◌≡◌, ◌++◌, drop, flat_map}
use Rattle.std.specs.Prelude.{reverse}
use Rattle.std.specs.List.{enumerate_from}
use Rattle.vega_parts.specs.Facets.{header, headers_in}
use Rattle.vega_parts.proofs.facets.push_headers_in.Given as goal

abbrev pub invariant-loop-inner : goal.invariant-loop-inner
invariant-loop-inner l = l.out ++ flat_map (header (reverse l.trail) l.number) (enumerate_from l.inner (drop l.inner l.items))
    ≡ l.initial.out ++ headers_in (reverse l.trail) l.number l.items
