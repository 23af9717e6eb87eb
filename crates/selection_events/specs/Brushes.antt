-- The brushes of stores: where an interval is selected, a rect over its plot, drawn last in its panel.
use Rattle.std.specs.Prelude.{◌≡◌, refl, ℕ, ◌==◌, ◌*◌, ℤ, pos, ◌-ℤ◌, Bool, true, false, ◌&&◌, if◌then◌else◌, Option, Some, None, Result, Ok, Err}
use Rattle.std.specs.Prelude.{List, [], ◌∷◌, ◌++◌, map, find, codes}
use Rattle.std.specs.Int.{int_min, int_max}
use Rattle.std.specs.Option.{option_map, option_map_or}
use Rattle.std.specs.List.{enumerate_from}
use Rattle.std.specs.Str.{bytes_eq}
use Rattle.fixed_num.specs.Number.{million, rounded, rounded_ratio, floor_quotient}
use Rattle.fixed_num.specs.Ranges.{◌>>=◌}
use Rattle.scale_kit.specs.declared.scale.Overflow.{Overflow}
use Rattle.cell_value.specs.declared.cell.Cell.TheVariants.{Number}
use Rattle.cell_value.specs.declared.state.Extent.{Extent}
use Rattle.cell_value.specs.declared.state.StoreOf.{StoreOf}
use Rattle.cell_value.specs.Row.{Cells}
use Rattle.scale_kit.specs.declared.scale.Scale.{Scale}
use Rattle.scale_kit.specs.declared.scale.Scale.TheVariants.{Linear}
use Rattle.scale_kit.specs.Lines.{cut_to}
use Rattle.scale_kit.specs.Places.{place_of}
use Rattle.scene_tree.specs.declared.scene.Scene.{Scene}
use Rattle.scene_tree.specs.declared.scene.Panel.{Panel}
use Rattle.scene_tree.specs.declared.scene.Item.{Item}
use Rattle.scene_tree.specs.declared.shape.Shape.TheVariants.{Rect}
use Rattle.selection_events.specs.declared.selection.PlotOf.{PlotOf}
use Rattle.selection_events.specs.Places.{has_unit, plot_of}
use Rattle.selection_events.specs.Stores.{is_same_tuple}
use Rattle.selection_events.specs.Events.{Inverts}

-- ---- the panel of a brush

-- two facet rows of a plot are the same, where it has these facet fields; outside facets there is none
abbrev pub are_same_facets : Option (List (List ℕ)) → Option Cells → Option Cells → Bool
are_same_facets None a b = true
are_same_facets (Some fields) (Some a) (Some b) = is_same_tuple fields a b
are_same_facets (Some fields) (Some a) None = false
are_same_facets (Some fields) None b = false

-- a plot draws the unit of a store, and its panel has the facet row of the panel in which the store was made
abbrev pub is_of_store : StoreOf → Panel → PlotOf → Bool
is_of_store store panel plot = has_unit store.unit plot && are_same_facets plot.facet panel.facet store.panel

abbrev pub is_brushed : List PlotOf → StoreOf → Panel → Bool
is_brushed plots store panel = option_map_or (is_of_store store panel) (plot_of plots panel) false

-- the first such panel in the scene, with its index; where there is none the brush isn't drawn
abbrev pub brushed_at : List PlotOf → List Panel → StoreOf → Option (ℕ × Panel)
brushed_at plots panels store = find (λ p. is_brushed plots store p.1) (enumerate_from 0 panels)

-- ---- its place

-- an end as a place, cut to a plot of this size: one without a place stands at the edge; None where it is out of range
abbrev pub place_in : ℤ → Result (Option ℤ) Overflow → Option ℤ
place_in size (Ok (Some place)) = Some (cut_to (pos 0, size) place)
place_in size (Ok None) = Some (pos 0)
place_in size (Err e) = None

-- between two places: where the lesser is, and how far the other is from it
abbrev pub between : ℤ → ℤ → ℤ × ℤ
between a b = (int_min a b, int_max a b -ℤ int_min a b)

-- an extent on a scale, in a plot of this size
abbrev pub span_on : ℤ → Extent → Scale → Option (ℤ × ℤ)
span_on size e s = do
  a ← place_in size (place_of s (Number e.lo))
  b ← place_in size (place_of s (Number e.hi))
  Some (between a b)

-- the whole plot
abbrev pub whole_span : ℤ → Option (ℤ × ℤ)
whole_span size = Some (pos 0, size)

-- Where the brush of a store begins along a channel, and how far it goes, in the panel of an index, where this is its extent of the channel: over
-- the whole plot where there is none, or no scale. None where an end is out of range.
abbrev pub extent_span : Inverts → ℕ → StoreOf → ℤ → List ℕ → Option Extent → Option (ℤ × ℤ)
extent_span scale index store size channel None = whole_span size
extent_span scale index store size channel (Some e) = option_map_or (span_on size e) (scale index store.name channel) (whole_span size)

-- the same for the extent that it has
abbrev pub span_along : Inverts → ℕ → StoreOf → ℤ → List ℕ → Option (ℤ × ℤ)
span_along scale index store size channel =
    extent_span scale index store size channel (find (λ (e : Extent). bytes_eq e.channel channel) store.extents)

-- the brush from these places on, so far
abbrev pub brush_item : ℤ × ℤ → ℤ × ℤ → Item
brush_item across down = record {
  shape = Rect across.0 down.0 across.1 down.1;
  fill = Some (codes "#333");
  stroke = None;
  stroke_width = pos million;
  opacity = pos 125000;
  unit = None;
  key = None;
}

-- the brush of a store in the panel of an index; None where it is out of range
abbrev pub brush_in : Inverts → StoreOf → ℕ × Panel → Option Item
brush_in scale store p = do
  across ← span_along scale p.0 store p.1.width (codes "x")
  down ← span_along scale p.0 store p.1.height (codes "y")
  Some (brush_item across down)

-- ---- scenes with brushes

-- a panel with one more item, if it is that of the index
abbrev pub panel_with : ℕ → Item → ℕ × Panel → Panel
panel_with index item p = if p.0 == index then record (p.1) { items = p.1.items ++ item ∷ [] } else p.1

abbrev pub panels_with : List Panel → ℕ → Item → List Panel
panels_with panels index item = map (panel_with index item) (enumerate_from 0 panels)

-- panels with a brush at its place
abbrev pub brushed_with : Inverts → List Panel → StoreOf → Option (ℕ × Panel) → Option (List Panel)
brushed_with scale panels store None = Some panels
brushed_with scale panels store (Some p) = option_map (panels_with panels p.0) (brush_in scale store p)

-- panels with the brush of a store that has these extents; a store without extents has none
abbrev pub with_extents_of : List PlotOf → Inverts → List Panel → StoreOf → List Extent → Option (List Panel)
with_extents_of plots scale panels store [] = Some panels
with_extents_of plots scale panels store (e ∷ es) = brushed_with scale panels store (brushed_at plots panels store)

abbrev pub with_brush : List PlotOf → Inverts → StoreOf → List Panel → Option (List Panel)
with_brush plots scale store panels = with_extents_of plots scale panels store store.extents

-- panels with the brushes of stores, in the order of the stores
abbrev pub all_brushed : List PlotOf → Inverts → List StoreOf → List Panel → Option (List Panel)
all_brushed plots scale [] panels = Some panels
all_brushed plots scale (store ∷ stores) panels = with_brush plots scale store panels >>= all_brushed plots scale stores

-- a scene with the brushes of stores; None where one of them is out of range
abbrev pub with_brushes : List PlotOf → Inverts → List StoreOf → Scene → Option Scene
with_brushes plots scale stores scene =
    option_map (λ panels. record { width = scene.width; height = scene.height; panels = panels }) (all_brushed plots scale stores scene.panels)

-- The rules at work.

-- a plot of 100 by 20 pixels, over which 0 to 10 is laid
abbrev a_panel : Panel
a_panel = record {
  x = pos (5 * million);
  y = pos (20 * million);
  width = pos (100 * million);
  height = pos (20 * million);
  view = Some 0;
  facet = None;
  items = [];
}

abbrev one_plot : List PlotOf
one_plot = record { units = 0 ∷ []; facet = None } ∷ []

abbrev a_line : Inverts
a_line index name channel = Some (Linear (pos 0) (pos (10 * million)) (pos 0) (pos (100 * million)))

abbrev brush : ℕ → ℕ → StoreOf
brush lo hi = record {
  name = codes "brush";
  tuples = [];
  extents = record { channel = codes "x"; field = codes "p"; temporal = false; lo = pos (lo * million); hi = pos (hi * million) } ∷ [];
  panel = None;
  unit = 0;
}

-- how the panels of a scene with that panel alone are brushed
abbrev brushed : StoreOf → Option (List (List Item))
brushed store = option_map (map (λ (p : Panel). p.items)) (with_brush one_plot a_line store (a_panel ∷ []))

abbrev a_brush : ℕ → ℕ → List (List Item)
a_brush x width = (brush_item (pos (x * million), pos (width * million)) (pos 0, pos (20 * million)) ∷ []) ∷ []

over_the_left_half : brushed (brush 0 5) ≡ Some (a_brush 0 50)
unfolding rounded_ratio rounded floor_quotient
over_the_left_half = refl

beyond_the_plot : brushed (brush 11 20) ≡ Some (a_brush 100 0)
unfolding rounded_ratio rounded floor_quotient
beyond_the_plot = refl

without_its_panel : brushed (record (brush 0 5) { unit = 1 }) ≡ Some ([] ∷ [])
without_its_panel = refl
