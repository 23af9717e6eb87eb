use Rattle.std.proofs.Common.{◌≡◌, ◌<◌, ◌++◌, length, map, take, drop, All}
use Rattle.std.specs.Prelude.{Vec}
use Rattle.std.specs.declared.alloc.Global.{Global}
use Rattle.cell_value.specs.declared.cell.Cell.{Cell}
use Rattle.plain_groups.specs.inner.Places.{place_at, first_place, leader_of, leaders, key_cells}
use Rattle.plain_groups.proofs.places.leaders.Given as goal

abbrev pub invariant-loop-at : goal.invariant-loop-at
invariant-loop-at l = record {
  found : l.found ++ map (leader_of (map (key_cells l.fields) l.rows)) (map (key_cells l.fields) (drop l.at l.rows))
      ≡ leaders (map (key_cells l.fields) l.rows);
  within : All (λ place. place < length l.rows) l.found;
  places : (q : Vec Cell Global) → place_at l.places q.items ≡ first_place (map (key_cells l.fields) (take l.at l.rows)) q.items;
}
