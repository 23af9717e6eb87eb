-- What events of the mouse leave in the stores of selections. An event acts in one panel, and there on the selections alone that concern a
-- unit of it.
use Rattle.std.specs.Prelude.{ℕ, ℤ, if◌then◌else◌, Option, Some, None, List, [], ◌∷◌, map, zip}
use Rattle.std.specs.Option.{option_map, option_map_or}
use Rattle.cell_value.specs.declared.cell.Cell.{Cell}
use Rattle.cell_value.specs.declared.state.Key.{Key}
use Rattle.cell_value.specs.declared.state.StoreOf.{StoreOf}
use Rattle.cell_value.specs.Row.{Cells, row_of}
use Rattle.scale_kit.specs.declared.scale.Scale.{Scale}
use Rattle.scene_tree.specs.declared.scene.Scene.{Scene}
use Rattle.scene_tree.specs.declared.scene.Panel.{Panel}
use Rattle.selection_events.specs.declared.selection.SelectionOf.{SelectionOf}
use Rattle.selection_events.specs.declared.selection.DragOf.{DragOf}
use Rattle.selection_events.specs.declared.selection.PlotOf.{PlotOf}
use Rattle.selection_events.specs.declared.hits.Hit.{Hit}
use Rattle.selection_events.specs.declared.drags.Drag.{Drag}
use Rattle.selection_events.specs.declared.drags.ChannelHere.{ChannelHere}
use Rattle.selection_events.specs.Places.{place_at, units_in_panel}
use Rattle.selection_events.specs.Hits.{hit_at}
use Rattle.selection_events.specs.Stores.{empty_store, store_clicked, store_toggled}
use Rattle.selection_events.specs.Drags.{store_dragged}

-- what becomes of the store of a selection that concerns a panel: from the panel with its index, the least of its units there, and all of them
abbrev pub Change : Type 0
Change = SelectionOf → ℕ × Panel → ℕ → List ℕ → StoreOf → StoreOf

-- a selection that has no unit in the panel keeps its store
abbrev pub with_units : Change → SelectionOf → ℕ × Panel → List ℕ → StoreOf → StoreOf
with_units change s place [] store = store
with_units change s place (u ∷ us) store = change s place u (u ∷ us) store

-- the store of a selection after an event in a panel
abbrev pub store_changed : List PlotOf → Change → ℕ × Panel → SelectionOf → StoreOf → StoreOf
store_changed plots change place s store = with_units change s place (units_in_panel plots s place.1) store

-- the stores of some selections, one each, after an event in a panel; in none nothing changes
abbrev pub stores_changed : List PlotOf → Change → Option (ℕ × Panel) → List SelectionOf → List StoreOf → List StoreOf
stores_changed plots change None selections stores = stores
stores_changed plots change (Some place) selections stores = map (λ p. store_changed plots change place p.0 p.1) (zip selections stores)

-- ---- clicks

-- what is read of rows: the cell under a name in the row of a key that a unit draws
abbrev pub Reads : Type 0
Reads = ℕ → Key → List ℕ → Cell

-- the tuple of an item that was hit: the cells of its row under the names of these fields
abbrev pub tuple_of : Reads → List (List ℕ) → Hit → Cells
tuple_of cell fields hit = row_of (map (λ field. (field, cell hit.unit hit.key field)) fields)

-- the tuple of what is hit at a point of a panel, if something is
abbrev pub tuple_at : Reads → List (List ℕ) → List ℕ → Panel → ℤ → ℤ → Option Cells
tuple_at cell fields units panel x y = option_map (tuple_of cell fields) (hit_at units panel x y)

-- a click at a point, where the selection does something on it
abbrev pub clicked_at : Reads → ℤ → ℤ → Change
clicked_at cell x y s place least units store =
    option_map_or (λ fields. store_clicked s.name place.1.facet least (tuple_at cell fields units place.1 x y)) s.click store

-- a click with the shift key
abbrev pub toggled_at : Reads → ℤ → ℤ → Change
toggled_at cell x y s place least units store =
    option_map_or (λ fields. store_toggled fields place.1.facet least store (tuple_at cell fields units place.1 x y)) s.toggle store

-- a double click
abbrev pub cleared_at : Change
cleared_at s place least units store = if s.clears then empty_store s.name else store

-- ---- drags

-- the scale that a drag inverts: in a panel, by its index in the scene, of the selection of a name, along a channel
abbrev pub Inverts : Type 0
Inverts = ℕ → List ℕ → List ℕ → Option Scale

-- a channel of a selection in the panel of an index
abbrev pub channel_here : Inverts → ℕ → SelectionOf → DragOf → ChannelHere
channel_here scale index s d = record { channel = d.channel; field = d.field; scale = scale index s.name d.channel }

-- a drag over some channels; without a channel the selection does nothing on it
abbrev pub dragged_over : Drag → SelectionOf → ℕ × Panel → ℕ → StoreOf → List ChannelHere → StoreOf
dragged_over d s place least store [] = store
dragged_over d s place least store (c ∷ cs) = store_dragged s.name place.1 least d (c ∷ cs)

-- a drag
abbrev pub dragged_at : Inverts → Drag → Change
dragged_at scale d s place least units store = dragged_over d s place least store (map (channel_here scale place.0 s) s.drag)

-- ---- all stores

-- What is drawn of a chart, as events see it.
pub record Seen : Type 0 where
  pub scene : Scene
  pub scale : Inverts
  pub cell : Reads

-- the stores after a click at a point of the picture
abbrev pub stores_clicked : List PlotOf → List SelectionOf → Seen → ℤ → ℤ → List StoreOf → List StoreOf
stores_clicked plots selections seen x y stores = stores_changed plots (clicked_at seen.cell x y) (place_at seen.scene x y) selections stores

-- the stores after a click with the shift key
abbrev pub stores_toggled : List PlotOf → List SelectionOf → Seen → ℤ → ℤ → List StoreOf → List StoreOf
stores_toggled plots selections seen x y stores = stores_changed plots (toggled_at seen.cell x y) (place_at seen.scene x y) selections stores

-- the stores after a double click
abbrev pub stores_cleared : List PlotOf → List SelectionOf → Seen → ℤ → ℤ → List StoreOf → List StoreOf
stores_cleared plots selections seen x y stores = stores_changed plots cleared_at (place_at seen.scene x y) selections stores

-- the stores after a drag, which acts in the panel in which it begins
abbrev pub stores_dragged : List PlotOf → List SelectionOf → Seen → Drag → List StoreOf → List StoreOf
stores_dragged plots selections seen d stores = stores_changed plots (dragged_at seen.scale d) (place_at seen.scene d.x1 d.y1) selections stores
