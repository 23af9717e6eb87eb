-- What holds of the items of marks.
use Rattle.std.specs.Prelude.{◌≡◌, ℕ, false, ℤ, Option, List, ◌++◌}
use Rattle.std.specs.Option.{option_map}
use Rattle.fixed_num.specs.Ranges.{◌>>=◌}
use Rattle.cell_value.specs.Datum.{Datum}
use Rattle.expr_eval.specs.Values.{Values}
use Rattle.scale_kit.specs.declared.scale.ScaleSet.{ScaleSet}
use Rattle.scene_tree.specs.declared.scene.Item.{Item}
use Rattle.vega_spec.specs.declared.encode.Encode.{Encode}
use Rattle.vega_spec.specs.declared.marks.MarkType.{MarkType}
use Rattle.vega_spec.specs.declared.orders.Sort.{Sort}
use Rattle.mark_encode.specs.Channels.{channel_values}
use Rattle.mark_encode.specs.Orders.{rows_in_order}
use Rattle.mark_encode.specs.Items.{items_with, item_for, is_path, items_in_order}

pub record LawsOfItems : Type 0 where
  -- the items of a mark that is no path are those of each of its rows, in its order
  pub of_each_row : (type : MarkType) (encode : Option Encode) (sort : Option Sort) (unit : ℕ) (scales : ScaleSet) (width height : ℤ)
      (values : Values) (rows : List Datum) → is_path type ≡ false
      → items_in_order type encode sort unit scales width height values rows
      ≡ items_with (item_for type unit width height (channel_values scales encode) values) (rows_in_order sort rows)
  -- the items of rows, and then of others, are those of the rows and then those of the others
  pub in_parts : (item : Datum → Option (Option Item)) (rows others : List Datum)
      → items_with item (rows ++ others)
      ≡ (items_with item rows >>= λ first. option_map (λ behind. first ++ behind) (items_with item others))
