use Rattle.std.proofs.Common.{◌≡◌, take}
use Rattle.std.specs.Prelude.{Vec}
use Rattle.std.specs.declared.alloc.Global.{Global}
use Rattle.cell_value.specs.declared.cell.Cell.{Cell}
use Rattle.plain_facets.specs.inner.Places.{place_at, first_place}
use Rattle.plain_facets.proofs.places.index_of.Given as goal

abbrev pub invariant-loop-at : goal.invariant-loop-at
invariant-loop-at l = (q : Vec Cell Global) → place_at l.places q.items ≡ first_place (take l.at l.keys) q.items
