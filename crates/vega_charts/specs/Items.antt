-- The items that marks draw in a plot.
use Rattle.std.specs.Prelude.{ℕ, Option, Some, None, List, [], map}
use Rattle.fixed_num.specs.Ranges.{◌>>=◌, all_found}
use Rattle.cell_value.specs.Datum.{Datum}
use Rattle.scene_tree.specs.declared.scene.Item.{Item}
use Rattle.scene_tree.specs.Moves.{moved_item}
use Rattle.mark_encode.specs.Items.{items_in_order}
use Rattle.vega_spec.specs.declared.marks.MarkFrom.{MarkFrom}
use Rattle.vega_spec.specs.declared.marks.MarkFrom.TheVariants as from
use Rattle.vega_lists.specs.Scopes.{Scope}
use Rattle.vega_copies.specs.Outlines.{PlainMark}
use Rattle.vega_drawing.specs.Scales.{set_of}
use Rattle.vega_drawing.specs.Frames.{Frame}

-- the items of a mark of this number in a plot, over rows and the scales of the plot by their names: in the order of the mark's sort, of a
-- line or an area one path
abbrev pub items_in_plot : Frame → ℕ → PlainMark → List Datum → Option (List Item)
items_in_plot frame unit m rows =
    items_in_order m.type m.encode m.sort unit (set_of frame.width frame.height frame.scales) frame.width frame.height frame.names.values rows

-- the rows from which a mark comes, where names stand for lists
abbrev pub rows_of_mark : Scope → Option MarkFrom → List Datum
rows_of_mark scope None = []
rows_of_mark scope (Some (from.Data name)) = scope name
rows_of_mark scope (Some (from.Facet facet)) = []

-- The items of a mark in one copy of the object that has it: over the rows for which the name of its data stands there, moved as that copy
-- is. None where a number is out of range.
abbrev pub items_in_copy : ℕ → PlainMark → Frame → Option (List Item)
items_in_copy unit m frame = do
  items ← items_in_plot frame unit m (rows_of_mark frame.names.lists m.from)
  all_found (map (moved_item frame.x frame.y) items)
