use Rattle.std.proofs.Common.{◌≡◌, [], drop, length, flat_map}
use Rattle.std.specs.Prelude.{replicate}
use Rattle.vega_rules.specs.Edges.{needs_by}
use Rattle.vega_rules.specs.inner.Placed.{place_at}
use Rattle.vega_rules.specs.inner.NeedRows.{with_needs}
use Rattle.vega_rules.proofs.graph.graph.Given as goal

-- the rows so far and the needs of the rest
abbrev pub invariant-loop-part : goal.invariant-loop-part
invariant-loop-part l = with_needs l.rows.items (flat_map (needs_by (place_at l.places) l.parts) (drop l.part-index l.parts))
    ≡ with_needs (replicate (length l.parts) []) (flat_map (needs_by (place_at l.places) l.parts) l.parts)
