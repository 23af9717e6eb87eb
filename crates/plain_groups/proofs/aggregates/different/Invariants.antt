use Rattle.std.proofs.Common.{◌≡◌, ◌+◌, ◌≤◌, [], ◌∷◌, length, map, take, drop}
use Rattle.std.specs.Prelude.{Vec}
use Rattle.std.specs.declared.alloc.Global.{Global}
use Rattle.cell_value.specs.declared.cell.Cell.{Cell}
use Rattle.cell_value.specs.Cell.{same_cells}
use Rattle.plain_groups.specs.Groups.{firsts_behind, firsts}
use Rattle.plain_groups.specs.inner.Places.{place_at, first_place}
use Rattle.plain_groups.proofs.aggregates.different.Given as goal

abbrev pub invariant-loop-at : goal.invariant-loop-at
invariant-loop-at l = record {
  counted : l.n + length (firsts_behind same_cells (take l.at l.cells) (drop l.at l.cells)) ≡ length (firsts same_cells l.cells);
  few : l.n ≤ l.at;
  places : (q : Vec Cell Global) → place_at l.places q.items ≡ first_place (map (λ cell. cell ∷ []) (take l.at l.cells)) q.items;
}
