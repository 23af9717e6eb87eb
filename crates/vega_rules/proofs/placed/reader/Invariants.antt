use Rattle.std.proofs.Common.{◌≡◌, ◌≤◌, length, take}
use Rattle.vega_rules.specs.Places.{fronts}
use Rattle.vega_rules.specs.Edges.{reader_at, first_found, reader}
use Rattle.vega_rules.specs.inner.Placed.{place_at}
use Rattle.vega_rules.proofs.placed.reader.Given as goal

-- in the fronts that are left it is found
abbrev pub invariant-loop-left : goal.invariant-loop-left
invariant-loop-left l = record {
  within : l.left ≤ length l.place;
  same : first_found (reader_at (place_at l.places)) (fronts (take l.left l.place)) ≡ reader (place_at l.places) l.place;
}

abbrev pub decreases-loop-left : goal.decreases-loop-left
decreases-loop-left l = l.left
