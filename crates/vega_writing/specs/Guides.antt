-- The trees of axes, legends and layouts.
use Rattle.std.specs.Prelude.{List, [], ◌∷◌, option_map, codes}
use Rattle.json_exact.specs.declared.json.Json.{Json}
use Rattle.vega_writing.specs.declared.slots.Slot.{Slot}
use Rattle.vega_spec.specs.declared.guides.Side.{Side}
use Rattle.vega_spec.specs.declared.guides.Side.TheVariants as side
use Rattle.vega_spec.specs.declared.guides.Edge.{Edge}
use Rattle.vega_spec.specs.declared.guides.Edge.TheVariants as edge
use Rattle.vega_spec.specs.declared.guides.Axis.{Axis}
use Rattle.vega_spec.specs.declared.guides.Legend.{Legend}
use Rattle.vega_spec.specs.declared.guides.Layout.{Layout}
use Rattle.vega_writing.specs.Slots.{must, may, object}
use Rattle.vega_writing.specs.Trees.{text_tree, flag_tree, number_tree, cell_tree, list_tree}

-- a side of a plot
unfoldable pub side_tree : Side → Json
side_tree side.Left = text_tree (codes "left")
side_tree side.Right = text_tree (codes "right")
side_tree side.Top = text_tree (codes "top")
side_tree side.Bottom = text_tree (codes "bottom")

-- the panels in which an axis stands alone
unfoldable pub edge_tree : Edge → Json
edge_tree edge.LastRow = text_tree (codes "last-row")
edge_tree edge.FirstColumn = text_tree (codes "first-column")

-- an axis: its members
unfoldable pub axis_slots : Axis → List Slot
axis_slots a =
    must (codes "scale") (text_tree a.scale) ∷ must (codes "orient") (side_tree a.orient) ∷
    may (codes "title") (option_map text_tree a.title) ∷ may (codes "labels") (option_map flag_tree a.labels) ∷
    may (codes "ticks") (option_map flag_tree a.ticks) ∷ may (codes "domain") (option_map flag_tree a.domain) ∷
    may (codes "grid") (option_map flag_tree a.grid) ∷ may (codes "labelAngle") (option_map number_tree a.label_angle) ∷
    may (codes "tickCount") (option_map number_tree a.tick_count) ∷
    may (codes "values") (option_map (list_tree cell_tree) a.values) ∷ may (codes "format") (option_map text_tree a.format) ∷
    may (codes "edge") (option_map edge_tree a.edge) ∷ []

abbrev pub axis_tree : Axis → Json
axis_tree a = object (axis_slots a)

-- a legend: its members
unfoldable pub legend_slots : Legend → List Slot
legend_slots l =
    may (codes "fill") (option_map text_tree l.fill) ∷ may (codes "opacity") (option_map text_tree l.opacity) ∷
    may (codes "shape") (option_map text_tree l.shape) ∷ may (codes "size") (option_map text_tree l.size) ∷
    may (codes "title") (option_map text_tree l.title) ∷ may (codes "format") (option_map text_tree l.format) ∷ []

abbrev pub legend_tree : Legend → Json
legend_tree l = object (legend_slots l)

-- how groups stand in a grid: its members
unfoldable pub layout_slots : Layout → List Slot
layout_slots l =
    may (codes "padding") (option_map number_tree l.padding) ∷ may (codes "columns") (option_map number_tree l.columns) ∷ []

abbrev pub layout_tree : Layout → Json
layout_tree l = object (layout_slots l)
