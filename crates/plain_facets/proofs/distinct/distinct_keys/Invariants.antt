use Rattle.std.proofs.Common.{◌≡◌, ◌++◌, take, drop}
use Rattle.std.specs.Prelude.{Vec}
use Rattle.std.specs.declared.alloc.Global.{Global}
use Rattle.cell_value.specs.declared.cell.Cell.{Cell}
use Rattle.plain_groups.specs.Groups.{firsts_behind}
use Rattle.plain_facets.specs.Facets.{is_key, distinct_keys}
use Rattle.plain_facets.specs.inner.Places.{place_at, first_place, keys_shown}
use Rattle.plain_facets.proofs.distinct.distinct_keys.Given as goal

abbrev pub invariant-loop-at : goal.invariant-loop-at
invariant-loop-at l = record {
  places : (q : Vec Cell Global) → place_at l.places q.items ≡ first_place (keys_shown l.fields (take l.at l.rows)) q.items;
  found : l.found ++ firsts_behind is_key (keys_shown l.fields (take l.at l.rows)) (keys_shown l.fields (drop l.at l.rows))
      ≡ distinct_keys (keys_shown l.fields l.rows);
}
