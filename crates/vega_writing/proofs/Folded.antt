-- Marks and groups, from the trees of what stands inside.
use Rattle.std.proofs.Common.{◌≡◌, Option, Some, None, List, map, option_map, refl, sym, ap, ◌∙◌}
use Rattle.json_exact.specs.declared.json.Json.{Json}
use Rattle.vega_spec.specs.declared.spec.Group.{Group, out-Group, fold_out-Group}
use Rattle.vega_spec.specs.declared.spec.Group.TheShapes.{former-Group-marks}
use Rattle.vega_spec.specs.declared.spec.VgMark.{VgMark, out-VgMark, fold_out-VgMark}
use Rattle.vega_writing.specs.declared.slots.Slot.{Slot}
use Rattle.vega_writing.specs.Spec.{group_slots_here, mark_tree_here, group_slots, mark_tree}
use Rattle.vega_writing.specs.inner.Marks.{group_with, mark_with}

trees_are : (marks : Option (List VgMark)) → option_map (map mark_tree) marks ≡ former-Group-marks.map VgMark Json mark_tree marks
trees_are None = refl
trees_are (Some marks) = refl

pub group_is : (group : Group) (marks : Option (List VgMark)) → (out-Group group).marks ≡ marks →
    group_with group (option_map (map mark_tree) marks) ≡ group_slots group
group_is group marks is =
    ap (λ (inside : Option (List VgMark)). group_with group (option_map (map mark_tree) inside)) (sym is)
    ∙ ap (group_with group) (trees_are (out-Group group).marks)
    ∙ sym (fold_out-Group (List Slot) Json group_slots_here mark_tree_here group)

pub mark_is : (mark : VgMark) → mark_with mark (group_slots (out-VgMark mark).group) ≡ mark_tree mark
mark_is mark = sym (fold_out-VgMark (List Slot) Json group_slots_here mark_tree_here mark)
