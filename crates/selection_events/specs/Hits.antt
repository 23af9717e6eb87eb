-- The item that a click hits.
use Rattle.std.specs.Prelude.{ℕ, ◌==◌, ℤ, ◌-ℤ◌, Bool, ◌&&◌, if◌then◌else◌, Option, Some, None, List, filter_map}
use Rattle.std.specs.List.{list_any}
use Rattle.fixed_num.specs.Ranges.{◌>>=◌}
use Rattle.scene_tree.specs.declared.scene.Panel.{Panel}
use Rattle.scene_tree.specs.declared.scene.Item.{Item}
use Rattle.scene_tree.specs.Hits.{holds_point, last}
use Rattle.selection_events.specs.declared.hits.Hit.{Hit}

-- the unit and the key of an item, where it has both
abbrev pub marked : Item → Option Hit
marked item = do
  unit ← item.unit
  key ← item.key
  Some (record { unit = unit; key = key })

-- one of these units
abbrev pub is_among : List ℕ → ℕ → Bool
is_among units unit = list_any (λ u. u == unit) units

-- what is hit of an item at a point of the picture: its unit and its key, where the unit is one of these and the item holds the point
abbrev pub hit_of : List ℕ → Panel → ℤ → ℤ → Item → Option Hit
hit_of units panel x y item = do
  hit ← marked item
  if is_among units hit.unit && holds_point item.shape (x -ℤ panel.x) (y -ℤ panel.y) then Some hit else None

-- what is hit in a panel: the last item of these units that has a key and holds the point
abbrev pub hit_at : List ℕ → Panel → ℤ → ℤ → Option Hit
hit_at units panel x y = last (filter_map (hit_of units panel x y) panel.items)
