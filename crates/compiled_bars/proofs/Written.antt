-- How bars are written as a tree.
use Rattle.std.proofs.Common.{◌≡◌, ℕ, List, [], ◌∷◌, ◌++◌, Some, None, ap, ◌∙◌}
use Rattle.json_exact.specs.declared.json.Json.{Json}
use Rattle.expr_syntax.specs.Writing.{text_of}
use Rattle.vega_spec.specs.declared.marks.MarkType.TheVariants as mark_type
use Rattle.vega_spec.specs.declared.marks.MarkFrom.TheVariants as from
use Rattle.vega_spec.specs.declared.spec.Group.{roll-Group, fold-roll-Group}
use Rattle.vega_spec.specs.declared.spec.VgMark.{roll-VgMark, fold-roll-VgMark}
use Rattle.vega_writing.specs.declared.slots.Slot.{Slot}
use Rattle.vega_writing.specs.Slots.{object, present}
use Rattle.vega_writing.specs.Data.{data_set_slots}
use Rattle.vega_writing.specs.Scales.{scale_slots, range_tree}
use Rattle.vega_writing.specs.Domains.{domain_tree, field_domain_slots, domain_order_tree}
use Rattle.vega_writing.specs.Encode.{encode_slots, channels_slots, channel_tree, channel_value_slots}
use Rattle.vega_writing.specs.Marks.{mark_type_tree, mark_from_tree}
use Rattle.vega_writing.specs.Trees.{cell_tree}
use Rattle.vega_writing.specs.Spec.{tree_of, group_slots, mark_tree, group_slots_here, mark_tree_here, mark_slots, own_slots, size_tree}
use Rattle.compiled_bars.specs.Bars.{bars_over, bars_mark, bars_group, no_group, channels, data_set, x_scale, y_scale, width}
use Rattle.compiled_bars.proofs.Tree as written

-- a mark that is no group has no members of one
none_written : group_slots (roll-Group no_group) ≡ group_slots_here (record {
  data_ = None;
  signals = None;
  scales = None;
  layout = None;
  marks = None;
  axes = None;
  legends = None;
  title = None;
})
none_written = fold-roll-Group (List Slot) Json group_slots_here mark_tree_here no_group

-- the mark of the bars
mark_written : (name x y : List ℕ) → mark_tree (roll-VgMark (bars_mark name x y)) ≡ written.mark name x y
unfolding group_slots_here mark_slots own_slots size_tree present data_set_slots scale_slots range_tree domain_tree field_domain_slots
    domain_order_tree encode_slots channels_slots channel_tree channel_value_slots mark_type_tree mark_from_tree cell_tree
mark_written name x y =
    fold-roll-VgMark (List Slot) Json group_slots_here mark_tree_here (bars_mark name x y)
    ∙ ap (λ (slots : List Slot). mark_tree_here (record {
      type_ = mark_type.Rect;
      name = None;
      from = Some (from.Data name);
      encode = Some record { enter = None; update = Some (channels x y) };
      sort = None;
      group = slots;
    })) none_written

-- the whole
pub bars_are : (name x y : List ℕ) (values : Json) →
    tree_of (bars_over name x y values) ≡ written.tree name x y values (text_of width)
unfolding group_slots_here mark_slots own_slots size_tree present data_set_slots scale_slots range_tree domain_tree field_domain_slots
    domain_order_tree encode_slots channels_slots channel_tree channel_value_slots mark_type_tree mark_from_tree cell_tree
bars_are name x y values =
    ap (λ (slots : List Slot). object (slots ++ own_slots (bars_over name x y values)))
    (fold-roll-Group (List Slot) Json group_slots_here mark_tree_here (bars_group name x y values))
    ∙ ap (λ (m : Json). object (group_slots_here (record {
      data_ = Some (data_set name values ∷ []);
      signals = None;
      scales = Some (x_scale name x ∷ y_scale name y ∷ []);
      layout = None;
      marks = Some (m ∷ []);
      axes = None;
      legends = None;
      title = None;
    }) ++ own_slots (bars_over name x y values))) (mark_written name x y)
