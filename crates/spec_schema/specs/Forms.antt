-- Which form of its shape a value has.
use Rattle.std.specs.Prelude.{ℕ, ◌==◌, Bool, true, ◌&&◌, not, Option, Some, None, List, find}
use Rattle.std.specs.Option.{option_map, is_some}
use Rattle.json_exact.specs.declared.json.Member.{Member}
use Rattle.spec_schema.specs.declared.form.Form.{Form}
use Rattle.spec_schema.specs.declared.form.Shape.{Shape}
use Rattle.spec_schema.specs.declared.form.Form.TheVariants as form
use Rattle.spec_schema.specs.declared.layout.Layout.{Layout}
use Rattle.spec_schema.specs.declared.schema.Schema.{Schema}
use Rattle.fixed_num.specs.Ranges.{is_within}
use Rattle.spec_schema.specs.Values.{Opened, is_null, is_flag, is_true, number_passes, is_whole_between, is_text, text_passes}
use Rattle.spec_schema.specs.Values.{among, is_cell, is_pair, list_passes, has_length, object_passes}
use Rattle.spec_schema.specs.Layouts.{names_of, layout_in}

-- a value, opened by one level, has a form, apart from what stands inside it
abbrev pub fits : Schema → Form → Opened → Bool
fits schema form.Null tree = is_null tree
fits schema form.Flag tree = is_flag tree
fits schema form.True tree = is_true tree
fits schema (form.Number least most) tree = number_passes (is_within least most) tree
fits schema (form.Whole least most) tree = number_passes (is_whole_between least most) tree
fits schema form.Text tree = is_text tree
fits schema (form.Name code) tree = text_passes (among (names_of schema code)) tree
fits schema (form.Except code) tree = not (text_passes (among (names_of schema code)) tree)
fits schema form.Cell tree = is_cell tree
fits schema form.Free tree = true
fits schema (form.Pair items) tree = list_passes is_pair tree
fits schema (form.List least most items) tree = list_passes (has_length least most) tree
fits schema (form.Object object) tree = object_passes (λ members. is_some (layout_in schema object members)) tree

-- it is a form of the shape, and the value has it
abbrev pub takes : Schema → ℕ → Opened → Shape → Bool
takes schema shape tree entry = entry.code == shape && fits schema entry.form tree

-- the first form of the shape that the value has
abbrev pub taken_form : Schema → ℕ → Opened → Option Form
taken_form schema shape tree = option_map (λ (s : Shape). s.form) (find (takes schema shape tree) schema.shapes)

-- the shape of the items, where the form is that of a list
abbrev pub items_shape : Form → Option ℕ
items_shape (form.Pair items) = Some items
items_shape (form.List least most items) = Some items
items_shape other = None

-- the layout of the members, where the form is that of an object
abbrev pub layout_of : Schema → Form → List Member → Option Layout
layout_of schema (form.Object object) members = layout_in schema object members
layout_of schema other members = None
