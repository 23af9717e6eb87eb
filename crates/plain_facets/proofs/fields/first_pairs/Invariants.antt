use Rattle.std.proofs.Common.{◌≡◌, ◌++◌, [], ◌∷◌, map, take, drop}
use Rattle.std.specs.Prelude.{Vec}
use Rattle.std.specs.declared.alloc.Global.{Global}
use Rattle.cell_value.specs.declared.cell.Cell.{Cell}
use Rattle.plain_groups.specs.Groups.{firsts_behind, firsts}
use Rattle.plain_facets.specs.inner.Besides.{alike_pairs, pair_shown}
use Rattle.plain_facets.specs.inner.Places.{place_at, first_place, keys_shown}
use Rattle.plain_facets.proofs.fields.first_pairs.Given as goal

abbrev pub invariant-loop-at : goal.invariant-loop-at
invariant-loop-at l = record {
  places : (q : Vec Cell Global) → place_at l.places q.items ≡ first_place (keys_shown (l.field ∷ []) (take l.at l.rows)) q.items;
  found : l.pairs ++ firsts_behind alike_pairs (map (pair_shown l.field l.other) (take l.at l.rows)) (map (pair_shown l.field l.other) (drop l.at l.rows))
      ≡ firsts alike_pairs (map (pair_shown l.field l.other) l.rows);
}
