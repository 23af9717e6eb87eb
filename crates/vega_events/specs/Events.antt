-- What an event of the mouse leaves of the parameters of a Vega chart. It acts on what is drawn of the present state: the scene, the scales of its
-- plots, and the rows that the marks draw.
use Rattle.std.specs.Prelude.{ℕ, ℤ, unwrap_or, Option, Some, None, List, map, zip}
use Rattle.cell_value.specs.declared.cell.Cell.TheVariants.{Null}
use Rattle.cell_value.specs.declared.state.Params.{Params}
use Rattle.cell_value.specs.declared.state.StoreOf.{StoreOf}
use Rattle.cell_value.specs.Datum.{Datum}
use Rattle.scale_kit.specs.declared.scale.ScaleSet.{ScaleSet}
use Rattle.scene_tree.specs.declared.scene.Scene.{Scene}
use Rattle.scene_tree.specs.declared.scene.Panel.{Panel}
use Rattle.param_flow.specs.declared.event.Event.{Event}
use Rattle.param_flow.specs.declared.event.Event.TheVariants as mouse
use Rattle.param_flow.specs.UnitRows.{cell_in_unit}
use Rattle.vega_spec.specs.declared.spec.VgSpec.{VgSpec}
use Rattle.selection_events.specs.declared.selection.PlotOf.{PlotOf}
use Rattle.selection_events.specs.Places.{place_at}
use Rattle.selection_events.specs.Events.{Reads, Inverts, Change, store_changed, clicked_at, toggled_at, cleared_at, dragged_at}
use Rattle.vega_selections.specs.declared.selections.VgSelection.{VgSelection}
use Rattle.vega_selections.specs.Plots.{plots_of}
use Rattle.vega_selections.specs.Selections.{selections_of}
use Rattle.vega_events.specs.Scales.{inverted_by}

-- the rows that each unit draws, if it is told
abbrev pub UnitLists : Type 0
UnitLists = ℕ → Option (List Datum)

-- the cell under a name in the row of a key that a unit draws; null where there is no such row
abbrev pub read_in : UnitLists → Reads
read_in rows unit key name = unwrap_or (cell_in_unit (rows unit) key name) Null

-- where an event begins
abbrev pub begin_of : Event → ℤ × ℤ
begin_of (mouse.Click x y) = (x, y)
begin_of (mouse.Shift x y) = (x, y)
begin_of (mouse.Double x y) = (x, y)
begin_of (mouse.Drag x1 y1 x2 y2) = (x1, y1)

-- what an event does to the store of a selection that concerns its panel
abbrev pub change_on : Event → Reads → Inverts → Change
change_on (mouse.Click x y) cell scale = clicked_at cell x y
change_on (mouse.Shift x y) cell scale = toggled_at cell x y
change_on (mouse.Double x y) cell scale = cleared_at
change_on (mouse.Drag x1 y1 x2 y2) cell scale = dragged_at scale (record { x1 = x1; y1 = y1; x2 = x2; y2 = y2 })

-- over the plots of the specification, the scales of the plots that are drawn, and the rows of their marks
module _ (plots : List PlotOf) (set : ScaleSet) (rows : UnitLists) where
  -- the store of a selection after an event in a panel
  abbrev pub store_after : Event → ℕ × Panel → VgSelection → StoreOf → StoreOf
  store_after e place v store = store_changed plots (change_on e (read_in rows) (inverted_by set v)) place v.selection store

  -- the stores of some selections, one each, after an event in a panel; in none nothing changes
  abbrev pub stores_after : Event → Option (ℕ × Panel) → List VgSelection → List StoreOf → List StoreOf
  stores_after e None selections stores = stores
  stores_after e (Some place) selections stores = map (λ p. store_after e place p.0 p.1) (zip selections stores)

-- the parameters and the stores of a chart after an event: the parameters stay
abbrev pub params_after : VgSpec → Params → ScaleSet → Scene → UnitLists → Event → Params
params_after g now set scene rows e = record {
  params = now.params;
  stores = stores_after (plots_of g) set rows e (place_at scene (begin_of e).0 (begin_of e).1) (selections_of g) now.stores;
}
