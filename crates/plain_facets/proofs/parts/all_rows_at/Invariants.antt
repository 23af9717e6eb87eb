use Rattle.std.proofs.Common.{◌≡◌, ◌++◌, map, drop, filter_map, slice_get}
use Rattle.plain_facets.proofs.parts.all_rows_at.Given as goal

abbrev pub invariant-loop-places : goal.invariant-loop-places
invariant-loop-places l = l.parts ++ map (filter_map (slice_get l.rows)) (drop l.places-index l.lists) ≡ map (filter_map (slice_get l.rows)) l.lists
