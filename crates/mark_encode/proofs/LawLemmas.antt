-- Why the items of a mark are those of its rows in turn, and come part by part.
use Rattle.std.proofs.Common.{◌≡◌, ℕ, false, ℤ, Option, Some, None, List, [], ◌∷◌, ◌++◌, map, refl, sym, ap, ◌∙◌, append_assoc}
use Rattle.std.specs.Option.{option_map, option_to_list}
use Rattle.fixed_num.specs.Ranges.{◌>>=◌, all_found}
use Rattle.cell_value.specs.Datum.{Datum}
use Rattle.expr_eval.specs.Values.{Values}
use Rattle.scale_kit.specs.declared.scale.ScaleSet.{ScaleSet}
use Rattle.scene_tree.specs.declared.scene.Item.{Item}
use Rattle.vega_spec.specs.declared.encode.Encode.{Encode}
use Rattle.vega_spec.specs.declared.marks.MarkType.{MarkType}
use Rattle.vega_spec.specs.declared.orders.Sort.{Sort}
use Rattle.mark_encode.specs.Channels.{channel_values}
use Rattle.mark_encode.specs.Orders.{rows_in_order}
use Rattle.mark_encode.specs.Items.{items_with, item_for, items_by, is_path, items_in_order}
use Rattle.mark_encode.proofs.ItemLemmas.{one_and_rest}

pub each_in_turn : (type : MarkType) (encode : Option Encode) (sort : Option Sort) (unit : ℕ) (scales : ScaleSet) (width height : ℤ)
    (values : Values) (rows : List Datum) → is_path type ≡ false
    → items_in_order type encode sort unit scales width height values rows
    ≡ items_with (item_for type unit width height (channel_values scales encode) values) (rows_in_order sort rows)
each_in_turn type encode sort unit scales width height values rows alone =
    ap (λ b. items_by b type unit width height (channel_values scales encode) values (rows_in_order sort rows)) alone

-- lists joined to others, if all are there
abbrev joined : {X : Type 0} → Option (List X) → Option (List X) → Option (List X)
joined a b = a >>= λ first. option_map (λ behind. first ++ behind) b

from_none : {X : Type 0} (b : Option (List X)) → b ≡ joined (Some []) b
from_none None = refl
from_none (Some items) = refl

one_before : {X : Type 0} (one : Option (Option X)) (a b : Option (List X))
    → (one >>= λ x. option_map (λ more. option_to_list x ++ more) (joined a b))
    ≡ joined (one >>= λ x. option_map (λ more. option_to_list x ++ more) a) b
one_before None a b = refl
one_before (Some x) None b = refl
one_before (Some x) (Some first) None = refl
one_before (Some x) (Some first) (Some behind) = ap Some (sym (append_assoc (option_to_list x) first behind))

pub part_by_part : (item : Datum → Option (Option Item)) (rows others : List Datum)
    → items_with item (rows ++ others)
    ≡ (items_with item rows >>= λ first. option_map (λ behind. first ++ behind) (items_with item others))
part_by_part item [] others = from_none (items_with item others)
part_by_part item (row ∷ rows) others =
    one_and_rest (item row) (all_found (map item (rows ++ others)))
    ∙ ap (λ rest. item row >>= λ x. option_map (λ more. option_to_list x ++ more) rest) (part_by_part item rows others)
    ∙ one_before (item row) (items_with item rows) (items_with item others)
    ∙ ap (λ first. joined first (items_with item others)) (sym (one_and_rest (item row) (all_found (map item rows))))
