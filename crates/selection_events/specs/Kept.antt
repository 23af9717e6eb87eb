-- The stores that events can leave, and the law that events leave such stores.
use Rattle.std.specs.Prelude.{◌≡◌, ◌≢◌, ◌⊎◌, ℕ, ℤ, ◌<ℤ◌, Bool, IsTrue, Option, Some, None, is_some, List, [], unwrap_or, slice_get, All}
use Rattle.std.specs.Prelude.{AllPairs, Contains, ◌||◌}
use Rattle.std.specs.List.{list_any, AllZip}
use Rattle.std.specs.Str.{bytes_eq}
use Rattle.std.specs.FinMap.{get}
use Rattle.cell_value.specs.declared.state.Extent.{Extent}
use Rattle.cell_value.specs.declared.state.StoreOf.{StoreOf}
use Rattle.cell_value.specs.Row.{Cells}
use Rattle.scale_kit.specs.declared.scale.Scale.{Scale}
use Rattle.scale_kit.specs.Scale.{IsScale, AreInstants}
use Rattle.scene_tree.specs.declared.scene.Panel.{Panel}
use Rattle.selection_events.specs.declared.selection.SelectionOf.{SelectionOf}
use Rattle.selection_events.specs.declared.selection.DragOf.{DragOf}
use Rattle.selection_events.specs.declared.selection.PlotOf.{PlotOf}
use Rattle.selection_events.specs.declared.drags.Drag.{Drag}
use Rattle.selection_events.specs.Places.{plot_of, units_in}
use Rattle.selection_events.specs.Stores.{empty_store}
use Rattle.selection_events.specs.Drags.{is_time}
use Rattle.selection_events.specs.Events.{Seen, stores_clicked, stores_toggled, stores_cleared, stores_dragged}

-- ---- what is asked of selections and of what is seen

-- whether the scale of a plot along a channel of a selection is one of time
abbrev pub Temporal : Type 0
Temporal = PlotOf → SelectionOf → DragOf → Bool

-- the fields that a selection keeps of clicks
abbrev pub fields_of : SelectionOf → List (List ℕ)
fields_of s = unwrap_or s.click (unwrap_or s.toggle [])

-- a selection that does something on a click with the shift key keeps the same fields of it as of a click
abbrev pub KeepsTheSame : Option (List (List ℕ)) → List (List ℕ) → Type 0
KeepsTheSame toggle fields = (other : List (List ℕ)) → toggle ≡ Some other → (name : List ℕ) → list_any (bytes_eq name) other ≡ list_any (bytes_eq name) fields

-- What is asked of a selection: its clicks keep the same fields, and it does not do something on clicks and on drags.
pub record IsSelection (s : SelectionOf) : Type 0 where
  pub alike : KeepsTheSame s.toggle (fields_of s)
  pub apart : (s.drag ≡ []) ⊎ ((s.click ≡ None) × (s.toggle ≡ None))

-- a row has exactly these fields
abbrev pub HasFields : List (List ℕ) → Cells → Type 0
HasFields fields row = (name : List ℕ) → is_some (get row name) ≡ list_any (bytes_eq name) fields

-- the facet row of a plot: a row of exactly its facet fields; none outside facets
abbrev pub IsFacetRow : Option (List (List ℕ)) → Option Cells → Type 0
IsFacetRow None None = Unit {0}
IsFacetRow None (Some row) = ⊥
IsFacetRow (Some fields) None = ⊥
IsFacetRow (Some fields) (Some row) = HasFields fields row

-- What is asked of what is drawn: a panel has the facet row of its plot, and the scales that drags invert there are scales, of time exactly
-- where the plot's are.
pub record IsSeenOf (temporal : Temporal) (plots : List PlotOf) (seen : Seen) : Type 0 where
  pub facets : (index : ℕ) (panel : Panel) (plot : PlotOf) → slice_get seen.scene.panels index ≡ Some panel → plot_of plots panel ≡ Some plot
      → IsFacetRow plot.facet panel.facet
  pub scales : (index : ℕ) (panel : Panel) (plot : PlotOf) (s : SelectionOf) (d : DragOf) (scale : Scale) → slice_get seen.scene.panels index ≡ Some panel
      → plot_of plots panel ≡ Some plot → seen.scale index s.name d.channel ≡ Some scale → IsScale scale × (is_time scale ≡ temporal plot s d)

-- ---- stores

-- a store of tuples: there are some, all different, each of exactly the fields that the selection keeps
pub record HoldsTuples (s : SelectionOf) (store : StoreOf) : Type 0 where
  pub some : store.tuples ≢ []
  pub clicks : IsTrue (is_some s.click || is_some s.toggle)
  pub different : AllPairs (λ a b. a ≢ b) store.tuples
  pub fields : All (HasFields (fields_of s)) store.tuples
  pub no_extents : store.extents ≡ []

-- the extent of a channel: of its field, with its lesser end below the greater, both instants in range where the scale is one of time
pub record IsExtentOf (temporal : Bool) (d : DragOf) (e : Extent) : Type 0 where
  pub channel : e.channel ≡ d.channel
  pub field : e.field ≡ d.field
  pub time : e.temporal ≡ temporal
  pub less : e.lo <ℤ e.hi
  pub instants : IsTrue temporal → AreInstants (e.lo, e.hi)

-- a store of extents: one for each channel
pub record HoldsExtents (temporal : DragOf → Bool) (s : SelectionOf) (store : StoreOf) : Type 0 where
  pub some : store.extents ≢ []
  pub extents : AllZip (λ d e. IsExtentOf (temporal d) d e) s.drag store.extents
  pub no_tuples : store.tuples ≡ []

-- a store that holds something since an event in this plot: it has the least of the selection's units there, and the facet row of one of its panels
pub record IsHeldIn (temporal : Temporal) (s : SelectionOf) (plot : PlotOf) (store : StoreOf) : Type 0 where
  pub name : store.name ≡ s.name
  pub unit : slice_get (units_in s plot) 0 ≡ Some store.unit
  pub panel : IsFacetRow plot.facet store.panel
  pub holds : HoldsTuples s store ⊎ HoldsExtents (temporal plot s) s store

-- a store of a selection: it is empty, or holds something since an event in one of the plots
abbrev pub IsStoreOf : Temporal → List PlotOf → SelectionOf → StoreOf → Type 0
IsStoreOf temporal plots s store = (store ≡ empty_store s.name) ⊎ ((plot : PlotOf) × Contains plots plot × IsHeldIn temporal s plot store)

-- the stores of some selections, one each
abbrev pub AreStoresOf : Temporal → List PlotOf → List SelectionOf → List StoreOf → Type 0
AreStoresOf temporal plots selections stores = AllZip (IsStoreOf temporal plots) selections stores

-- ---- the law

-- what an event leaves of stores is stores
abbrev pub Keeps : (List PlotOf → List SelectionOf → Seen → List StoreOf → List StoreOf) → Type 0
Keeps event = (temporal : Temporal) (plots : List PlotOf) (selections : List SelectionOf) (seen : Seen) (stores : List StoreOf)
    → IsSeenOf temporal plots seen → All IsSelection selections → AreStoresOf temporal plots selections stores
    → AreStoresOf temporal plots selections (event plots selections seen stores)

abbrev pub ClicksKeepStores : Type 0
ClicksKeepStores = (x y : ℤ) → Keeps (λ plots selections seen stores. stores_clicked plots selections seen x y stores)

abbrev pub TogglesKeepStores : Type 0
TogglesKeepStores = (x y : ℤ) → Keeps (λ plots selections seen stores. stores_toggled plots selections seen x y stores)

abbrev pub ClearsKeepStores : Type 0
ClearsKeepStores = (x y : ℤ) → Keeps (λ plots selections seen stores. stores_cleared plots selections seen x y stores)

abbrev pub DragsKeepStores : Type 0
DragsKeepStores = (d : Drag) → Keeps (λ plots selections seen stores. stores_dragged plots selections seen d stores)
