-- Events at work, on three circles in one panel: two of them stand at one place.
use Rattle.std.specs.Prelude.{◌≡◌, refl, ℕ, ◌*◌, ℤ, pos, true, Some, None, List, [], ◌∷◌, codes}
use Rattle.fixed_num.specs.Number.{million}
use Rattle.cell_value.specs.declared.cell.Cell.{Cell}
use Rattle.cell_value.specs.declared.cell.Cell.TheVariants.{Number}
use Rattle.cell_value.specs.declared.state.Key.{Key}
use Rattle.cell_value.specs.declared.state.StoreOf.{StoreOf}
use Rattle.cell_value.specs.Row.{Cells, row_of}
use Rattle.scene_tree.specs.declared.scene.Panel.{Panel}
use Rattle.scene_tree.specs.declared.scene.Item.{Item}
use Rattle.scene_tree.specs.declared.shape.Shape.TheVariants.{Circle}
use Rattle.selection_events.specs.declared.selection.SelectionOf.{SelectionOf}
use Rattle.selection_events.specs.declared.selection.PlotOf.{PlotOf}
use Rattle.selection_events.specs.Hits.{hit_at}
use Rattle.selection_events.specs.Stores.{empty_store, with_tuples}
use Rattle.selection_events.specs.Events.{Seen, stores_clicked, stores_toggled, stores_cleared}

abbrev pixels : ℕ → ℤ
pixels n = pos (n * million)

abbrev circle : ℕ → ℕ → Item
circle id x = record {
  shape = Circle (pixels x) (pixels 10) (pos 2738613);
  fill = None;
  stroke = None;
  stroke_width = pixels 1;
  opacity = pixels 1;
  unit = Some 0;
  key = Some (record { id = id; branch = 0 });
}

abbrev a_panel : Panel
a_panel = record {
  x = pixels 5;
  y = pixels 5;
  width = pixels 200;
  height = pixels 20;
  view = Some 0;
  facet = None;
  items = circle 1 0 ∷ circle 2 200 ∷ circle 3 200 ∷ [];
}

-- the cell under each name is the id of the row
abbrev cell_read : ℕ → Key → List ℕ → Cell
cell_read unit key name = Number (pixels key.id)

abbrev seen : Seen
seen = record {
  scene = record { width = pixels 210; height = pixels 30; panels = a_panel ∷ [] };
  scale = λ index name channel. None;
  cell = cell_read;
}

abbrev plots : List PlotOf
plots = record { units = 0 ∷ []; facet = None } ∷ []

-- a selection that keeps ids
abbrev pick : SelectionOf
pick = record {
  name = codes "pick";
  units = 0 ∷ [];
  click = Some (codes "_vgsid_" ∷ []);
  toggle = Some (codes "_vgsid_" ∷ []);
  clears = true;
  drag = [];
}

the_last_circle_is_hit : (hit_at (0 ∷ []) a_panel (pixels 205) (pixels 15) ≡ Some (record { unit = 0; key = record { id = 3; branch = 0 } }))
    × (hit_at (0 ∷ []) a_panel (pixels 5) (pixels 15) ≡ Some (record { unit = 0; key = record { id = 1; branch = 0 } }))
    × (hit_at (0 ∷ []) a_panel (pixels 105) (pixels 15) ≡ None) × (hit_at (1 ∷ []) a_panel (pixels 205) (pixels 15) ≡ None)
the_last_circle_is_hit = (refl, refl, refl, refl)

-- the tuple of a row's id
abbrev tuple : ℕ → Cells
tuple id = row_of ((codes "_vgsid_", Number (pixels id)) ∷ [])

abbrev with_id : ℕ → List StoreOf
with_id id = with_tuples (codes "pick") None 0 (tuple id ∷ []) ∷ []

abbrev empty : List StoreOf
empty = empty_store (codes "pick") ∷ []

a_click_on_two_circles : stores_clicked plots (pick ∷ []) seen (pixels 205) (pixels 15) empty ≡ with_id 3
a_click_on_two_circles = refl

a_click_on_another : stores_clicked plots (pick ∷ []) seen (pixels 5) (pixels 15) (with_id 3) ≡ with_id 1
a_click_on_another = refl

a_click_beside_them_clears : stores_clicked plots (pick ∷ []) seen (pixels 105) (pixels 15) (with_id 3) ≡ empty
a_click_beside_them_clears = refl

a_click_beside_the_panel_does_nothing : stores_clicked plots (pick ∷ []) seen (pixels 4) (pixels 15) (with_id 3) ≡ with_id 3
a_click_beside_the_panel_does_nothing = refl

-- with the shift key
a_first_tuple : stores_toggled plots (pick ∷ []) seen (pixels 5) (pixels 15) empty ≡ with_id 1
a_first_tuple = refl

nothing_is_toggled : stores_toggled plots (pick ∷ []) seen (pixels 105) (pixels 15) (with_id 3) ≡ with_id 3
nothing_is_toggled = refl

a_double_click : stores_cleared plots (pick ∷ []) seen (pixels 105) (pixels 15) (with_id 3) ≡ empty
a_double_click = refl
