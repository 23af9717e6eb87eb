use Rattle.std.proofs.Common.{◌≡◌, ◌++◌, drop, filter_map, slice_get}
use Rattle.plain_facets.proofs.parts.rows_at.Given as goal

abbrev pub invariant-loop-place : goal.invariant-loop-place
invariant-loop-place l = l.found ++ filter_map (slice_get l.rows) (drop l.place-index l.places) ≡ filter_map (slice_get l.rows) l.places
