-- The items of marks.
use Rattle.std.specs.Prelude.{ℕ, Bool, true, false, ◌&&◌, ℤ, Option, Some, None, List, map}
use Rattle.std.specs.Option.{option_map}
use Rattle.std.specs.List.{filter_map}
use Rattle.fixed_num.specs.Ranges.{◌>>=◌, all_found}
use Rattle.cell_value.specs.declared.state.Key.{Key}
use Rattle.cell_value.specs.Datum.{CellAt, Datum}
use Rattle.expr_eval.specs.Values.{Values}
use Rattle.scene_tree.specs.declared.scene.Item.{Item}
use Rattle.scene_tree.specs.declared.shape.Shape.{Shape}
use Rattle.scale_kit.specs.declared.scale.ScaleSet.{ScaleSet}
use Rattle.vega_spec.specs.declared.encode.Encode.{Encode}
use Rattle.vega_spec.specs.declared.marks.MarkType.{MarkType}
use Rattle.vega_spec.specs.declared.marks.MarkType.TheVariants as mark
use Rattle.vega_spec.specs.declared.marks.MarkFrom.{MarkFrom}
use Rattle.vega_spec.specs.declared.marks.MarkFrom.TheVariants.{Data, Facet}
use Rattle.vega_spec.specs.declared.orders.Sort.{Sort}
use Rattle.vega_spec.specs.declared.spec.VgMark.{VgMark, out-VgMark}
use Rattle.mark_shapes.specs.Items.{item_with}
use Rattle.mark_encode.specs.declared.channels.ChannelName.{ChannelName}
use Rattle.mark_encode.specs.Channels.{ScaledValue, channel_values}
use Rattle.mark_encode.specs.Looks.{LookValues, default_stroke_width, look_for, looks_of, painted_on}
use Rattle.mark_encode.specs.Rects.{across_of, down_of, rect_for}
use Rattle.mark_encode.specs.Symbols.{symbol_values_of, symbol_for}
use Rattle.mark_encode.specs.Rules.{rule_values_of, rule_for}
use Rattle.mark_encode.specs.Texts.{text_values_of, text_for}
use Rattle.mark_encode.specs.Orders.{rows_in_order}
use Rattle.mark_encode.specs.Paths.{path_items_of}

-- the shape of a row by itself, for each type of mark that has one, by its channels
abbrev pub rect_shape : (ChannelName → List ScaledValue) → CellAt → Values → Option (Option Shape)
rect_shape channels = rect_for (across_of channels) (down_of channels)

abbrev pub symbol_shape : (ChannelName → List ScaledValue) → CellAt → Values → Option (Option Shape)
symbol_shape channels = symbol_for (symbol_values_of channels)

abbrev pub rule_shape : ℤ → ℤ → (ChannelName → List ScaledValue) → CellAt → Values → Option (Option Shape)
rule_shape width height channels = rule_for (rule_values_of width height channels)

abbrev pub text_shape : (ChannelName → List ScaledValue) → CellAt → Values → Option (Option Shape)
text_shape channels = text_for (text_values_of channels)

-- the shape of a row by itself in a plot of this width and height, by the type of its mark
abbrev pub shape_for : MarkType → ℤ → ℤ → (ChannelName → List ScaledValue) → CellAt → Values → Option (Option Shape)
shape_for mark.Rect width height channels = rect_shape channels
shape_for mark.Symbol width height channels = symbol_shape channels
shape_for mark.Rule width height channels = rule_shape width height channels
shape_for mark.Text width height channels = text_shape channels
shape_for mark.Line width height channels = λ cells values. Some None
shape_for mark.Area width height channels = λ cells values. Some None
shape_for mark.Group width height channels = λ cells values. Some None

-- rects and symbols are picked by the keys of their rows
abbrev pub picked_key : MarkType → Key → Option Key
picked_key mark.Rect key = Some key
picked_key mark.Symbol key = Some key
picked_key mark.Line key = None
picked_key mark.Area key = None
picked_key mark.Rule key = None
picked_key mark.Text key = None
picked_key mark.Group key = None

-- the item of a row by its shape and the values that paint it; none where the row lacks a place, a number or a colour that its mark needs
abbrev pub item_by : MarkType → ℕ → (CellAt → Values → Option (Option Shape)) → LookValues → Values → Datum → Option (Option Item)
item_by type unit shape_of looks values datum = do
  shape ← shape_of datum.cell values
  look ← look_for (default_stroke_width type) datum.cell values looks
  Some (item_with unit (picked_key type datum.key) shape (painted_on type look))

-- the items of rows that have one, in the order of the rows
abbrev pub items_with : (Datum → Option (Option Item)) → List Datum → Option (List Item)
items_with item rows = option_map (filter_map (λ found. found)) (all_found (map item rows))

-- the item of a row, by the channels of its mark
abbrev pub item_for : MarkType → ℕ → ℤ → ℤ → (ChannelName → List ScaledValue) → Values → Datum → Option (Option Item)
item_for type unit width height channels values = item_by type unit (shape_for type width height channels) (looks_of channels) values

-- the items that a mark has for each row by itself, in the order of the rows
abbrev pub items_for : MarkType → ℕ → ℤ → ℤ → (ChannelName → List ScaledValue) → Values → List Datum → Option (List Item)
items_for type unit width height channels values rows = items_with (item_for type unit width height channels values) rows

-- lines and areas are one path over their rows
abbrev pub is_path : MarkType → Bool
is_path mark.Rect = false
is_path mark.Symbol = false
is_path mark.Line = true
is_path mark.Area = true
is_path mark.Rule = false
is_path mark.Text = false
is_path mark.Group = false

-- the items of a mark over its rows in order: a path over all of them, or an item for each
abbrev pub items_by : Bool → MarkType → ℕ → ℤ → ℤ → (ChannelName → List ScaledValue) → Values → List Datum → Option (List Item)
items_by true type unit width height channels values rows = path_items_of type unit channels values rows
items_by false type unit width height channels values rows = items_for type unit width height channels values rows

abbrev pub items_over : MarkType → ℕ → ℤ → ℤ → (ChannelName → List ScaledValue) → Values → List Datum → Option (List Item)
items_over type unit width height channels values rows = items_by (is_path type) type unit width height channels values rows

-- The items of a mark with this type, these encode sets and this order, of this number, over rows in a plot of this width and height: a path
-- or an item for each row, in its order. None where a number is out of range.
abbrev pub items_in_order : MarkType → Option Encode → Option Sort → ℕ → ScaleSet → ℤ → ℤ → Values → List Datum → Option (List Item)
items_in_order type encode sort unit scales width height values rows =
    items_over type unit width height (channel_values scales encode) values (rows_in_order sort rows)

-- the items of a mark
abbrev pub items_of : VgMark → ℕ → ScaleSet → ℤ → ℤ → Values → List Datum → Option (List Item)
items_of m unit scales width height values rows =
    items_in_order (out-VgMark m).type_ (out-VgMark m).encode (out-VgMark m).sort unit scales width height values rows

-- whether a mark comes from the rows of a data set
abbrev pub is_from_data : Option MarkFrom → Bool
is_from_data None = false
is_from_data (Some (Data source)) = true
is_from_data (Some (Facet facet)) = false

-- whether the items of marks of a type are built
abbrev pub is_built_type : MarkType → Bool
is_built_type mark.Rect = true
is_built_type mark.Symbol = true
is_built_type mark.Line = true
is_built_type mark.Area = true
is_built_type mark.Rule = true
is_built_type mark.Text = true
is_built_type mark.Group = false

-- whether the items of a mark are built: it is no group, and comes from data
abbrev pub is_built : VgMark → Bool
is_built m = is_built_type (out-VgMark m).type_ && is_from_data (out-VgMark m).from
