-- The trees of marks, groups and whole specifications.
use Rattle.std.specs.Prelude.{List, [], ◌∷◌, ◌++◌, option_map, codes}
use Rattle.json_exact.specs.declared.json.Json.{Json}
use Rattle.json_exact.specs.declared.json.Json.TheVariants as json
use Rattle.vega_writing.specs.declared.slots.Slot.{Slot}
use Rattle.vega_spec.specs.declared.spec.Group.{Group, Group-F, fold-Group}
use Rattle.vega_spec.specs.declared.spec.VgMark.{VgMark, VgMark-F, fold-VgMark}
use Rattle.vega_spec.specs.declared.spec.Autosize.{Autosize}
use Rattle.vega_spec.specs.declared.spec.Autosize.TheVariants as autosize
use Rattle.vega_spec.specs.declared.spec.Size.{Size}
use Rattle.vega_spec.specs.declared.spec.Size.TheVariants as size
use Rattle.vega_spec.specs.declared.spec.VgSpec.{VgSpec}
use Rattle.vega_writing.specs.Slots.{must, may, object}
use Rattle.vega_writing.specs.Trees.{text_tree, number_tree, list_tree, computed_tree}
use Rattle.vega_writing.specs.Orders.{sort_tree}
use Rattle.vega_writing.specs.Data.{data_set_tree}
use Rattle.vega_writing.specs.Encode.{encode_tree}
use Rattle.vega_writing.specs.Guides.{axis_tree, legend_tree, layout_tree}
use Rattle.vega_writing.specs.Marks.{mark_type_tree, mark_from_tree}
use Rattle.vega_writing.specs.Scales.{scale_tree}
use Rattle.vega_writing.specs.Signals.{signal_tree}

-- how the picture takes its size
unfoldable pub autosize_tree : Autosize → Json
autosize_tree autosize.Pad = text_tree (codes "pad")

-- a width or a height
unfoldable pub size_tree : Size → Json
size_tree (size.Number number) = number_tree number
size_tree (size.Signal e) = computed_tree e

-- the members that the whole and a group have in common, from the trees of the marks inside
unfoldable pub group_slots_here : Group-F (List Slot) Json → List Slot
group_slots_here g =
    may (codes "data") (option_map (list_tree data_set_tree) g.data_) ∷
    may (codes "signals") (option_map (list_tree signal_tree) g.signals) ∷
    may (codes "scales") (option_map (list_tree scale_tree) g.scales) ∷ may (codes "layout") (option_map layout_tree g.layout) ∷
    may (codes "marks") (option_map json.List g.marks) ∷ may (codes "axes") (option_map (list_tree axis_tree) g.axes) ∷
    may (codes "legends") (option_map (list_tree legend_tree) g.legends) ∷ may (codes "title") (option_map text_tree g.title) ∷ []

-- the members of a mark, from those that it has as a group
unfoldable pub mark_slots : VgMark-F (List Slot) Json → List Slot
mark_slots m =
    must (codes "type") (mark_type_tree m.type_) ∷ may (codes "name") (option_map text_tree m.name) ∷
    may (codes "from") (option_map mark_from_tree m.from) ∷ may (codes "encode") (option_map encode_tree m.encode) ∷
    may (codes "sort") (option_map sort_tree m.sort) ∷ m.group

-- a mark, from the members that it has as a group
abbrev pub mark_tree_here : VgMark-F (List Slot) Json → Json
mark_tree_here m = object (mark_slots m)

-- the members that the whole and a group have in common
abbrev pub group_slots : Group → List Slot
group_slots = fold-Group (List Slot) Json group_slots_here mark_tree_here

-- a mark
abbrev pub mark_tree : VgMark → Json
mark_tree = fold-VgMark (List Slot) Json group_slots_here mark_tree_here

-- the members that the whole alone has
unfoldable pub own_slots : VgSpec → List Slot
own_slots g =
    may (codes "$schema") (option_map text_tree g.schema) ∷ may (codes "description") (option_map text_tree g.description) ∷
    may (codes "width") (option_map size_tree g.width) ∷ may (codes "height") (option_map size_tree g.height) ∷
    may (codes "padding") (option_map number_tree g.padding) ∷ may (codes "autosize") (option_map autosize_tree g.autosize) ∷ []

-- a whole specification
abbrev pub tree_of : VgSpec → Json
tree_of g = object (group_slots g.group ++ own_slots g)
