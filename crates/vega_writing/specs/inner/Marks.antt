-- Marks and groups, from the trees of what stands inside.
use Rattle.std.specs.Prelude.{List, Option}
use Rattle.json_exact.specs.declared.json.Json.{Json}
use Rattle.vega_spec.specs.declared.spec.Group.{Group, out-Group}
use Rattle.vega_spec.specs.declared.spec.VgMark.{VgMark, out-VgMark}
use Rattle.vega_writing.specs.declared.slots.Slot.{Slot}
use Rattle.vega_writing.specs.Spec.{group_slots_here, mark_tree_here}

-- the members that the whole and a group have in common, from the trees of the marks inside
abbrev pub group_with : Group → Option (List Json) → List Slot
group_with group trees = let g = out-Group group in group_slots_here (record {
  data_ = g.data_;
  signals = g.signals;
  scales = g.scales;
  layout = g.layout;
  marks = trees;
  axes = g.axes;
  legends = g.legends;
  title = g.title;
})

-- a mark, from the members that it has as a group
abbrev pub mark_with : VgMark → List Slot → Json
mark_with mark slots = let m = out-VgMark mark in mark_tree_here (record {
  type_ = m.type_;
  name = m.name;
  from = m.from;
  encode = m.encode;
  sort = m.sort;
  group = slots;
})
