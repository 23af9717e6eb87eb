-- Marks, parameters and selections.
use Rattle.std.specs.Prelude.{◌≡◌, refl, ℕ, ℤ, pos, Bool, true, false, Option, Some, None, List, [], ◌∷◌, codes, if◌then◌else◌}
use Rattle.std.specs.Option.{option_map, unwrap_or}
use Rattle.std.specs.Str.{bytes_eq}
use Rattle.json_exact.specs.declared.json.Json.TheVariants as json
use Rattle.json_exact.specs.declared.json.Json.{out-Json}
use Rattle.json_exact.specs.declared.json.Json.TheOpen as level
use Rattle.json_exact.specs.declared.json.Member.{Member}
use Rattle.cell_value.specs.declared.cell.Cell.{Cell}
use Rattle.cell_value.specs.declared.cell.Cell.TheVariants as cell
use Rattle.vl_spec.specs.declared.marks.Mark.{Mark}
use Rattle.vl_spec.specs.declared.marks.Mark.TheVariants as mark
use Rattle.vl_spec.specs.declared.marks.MarkDefinition.{MarkDefinition}
use Rattle.vl_spec.specs.declared.marks.MarkType.{MarkType}
use Rattle.vl_spec.specs.declared.marks.MarkType.TheVariants as mark_type
use Rattle.vl_spec.specs.declared.params.ParamOf.{ParamOf}
use Rattle.vl_spec.specs.declared.params.ParamKind.{ParamKind}
use Rattle.vl_spec.specs.declared.params.ParamKind.TheVariants as param_kind
use Rattle.vl_spec.specs.declared.params.Selection.{Selection}
use Rattle.vl_spec.specs.declared.params.Select.{Select}
use Rattle.vl_spec.specs.declared.params.Select.TheVariants as select
use Rattle.vl_spec.specs.declared.params.SelectType.TheVariants as select_type
use Rattle.vl_spec.specs.declared.params.SelectDefinition.{SelectDefinition}
use Rattle.vl_spec.specs.declared.params.Clear.{Clear}
use Rattle.vl_spec.specs.declared.params.Clear.TheVariants as clear
use Rattle.vl_spec.specs.declared.params.Toggle.{Toggle}
use Rattle.vl_spec.specs.declared.params.Toggle.TheVariants as toggle
use Rattle.tree_readers.specs.Parts.{Opened, found_at, has_member, flag_at, text_at, needed_text, texts_at, cell_at}
use Rattle.vl_building.specs.Expressions.{needed_expression}
use Rattle.vl_building.specs.Fields.{fields_at}
use Rattle.vl_building.specs.Numbers.{share_at, count_at, look_at, shift_at}
use Rattle.vl_building.specs.Names.{named_at, align_named, baseline_named, interpolate_named, mark_type_named, needed_mark_type, select_type_named}
use Rattle.vl_building.specs.Names.{needed_select_type, select_event_named, channels_at}

-- whether marks of a type are signs, which have a size
abbrev pub is_sign : MarkType → Bool
is_sign mark_type.Bar = false
is_sign mark_type.Rect = false
is_sign mark_type.Point = true
is_sign mark_type.Circle = true
is_sign mark_type.Square = true
is_sign mark_type.Line = false
is_sign mark_type.Area = false
is_sign mark_type.Tick = false
is_sign mark_type.Rule = false
is_sign mark_type.Text = false

-- the size of a sign, under a name
abbrev pub sign_size_at : MarkType → List Member → List ℕ → Option ℤ
sign_size_at type_ members name = if is_sign type_ then look_at members name else None

-- the type and the look of a mark
unfoldable pub mark_definition_of : List Member → MarkDefinition
mark_definition_of members = record {
  type_ = needed_mark_type members (codes "type");
  color = text_at members (codes "color");
  opacity = share_at members (codes "opacity");
  filled = flag_at members (codes "filled");
  point = flag_at members (codes "point");
  size = sign_size_at (needed_mark_type members (codes "type")) members (codes "size");
  stroke_width = look_at members (codes "strokeWidth");
  align = named_at align_named members (codes "align");
  baseline = named_at baseline_named members (codes "baseline");
  dx = shift_at members (codes "dx");
  dy = shift_at members (codes "dy");
  font_size = count_at members (codes "fontSize");
  interpolate = named_at interpolate_named members (codes "interpolate");
}

-- a mark that is the name of its type
abbrev pub mark_named : List ℕ → Option Mark
mark_named name = option_map mark.Type (mark_type_named name)

-- a mark: the name of its type, or an object
abbrev pub mark_in : Opened → Option Mark
mark_in (level.Text text) = mark_named text
mark_in (level.Object members) = Some (mark.Definition (mark_definition_of members))
mark_in other = None

-- the mark under a name
abbrev pub mark_at : List Member → List ℕ → Option Mark
mark_at = found_at mark_in

-- the event that clears a selection, by its name
abbrev pub clear_named : List ℕ → Option Clear
clear_named name = if bytes_eq name (codes "dblclick") then Some clear.DoubleClick else None

-- the event that clears a selection
abbrev pub clear_in : Opened → Option Clear
clear_in (level.Flag b) = if b then Some clear.True else None
clear_in (level.Text text) = clear_named text
clear_in other = None

-- the event that toggles one, by its name
abbrev pub toggle_named : List ℕ → Option Toggle
toggle_named name = if bytes_eq name (codes "event.shiftKey") then Some toggle.ShiftKey else None

-- the event that toggles one
abbrev pub toggle_in : Opened → Option Toggle
toggle_in (level.Flag b) = if b then Some toggle.True else None
toggle_in (level.Text text) = toggle_named text
toggle_in other = None

-- the type of a selection, what it keeps and when it changes
unfoldable pub select_definition_of : List Member → SelectDefinition
select_definition_of members = record {
  type_ = needed_select_type members (codes "type");
  fields = fields_at members (codes "fields");
  encodings = channels_at members (codes "encodings");
  on = named_at (select_event_named (needed_select_type members (codes "type"))) members (codes "on");
  clear = found_at clear_in members (codes "clear");
  toggle = found_at toggle_in members (codes "toggle");
}

-- a selection that is the name of its type
abbrev pub select_named : List ℕ → Option Select
select_named name = option_map select.Type (select_type_named name)

-- what a selection keeps: the name of its type, or an object
abbrev pub select_in : Opened → Option Select
select_in (level.Text text) = select_named text
select_in (level.Object members) = Some (select.Definition (select_definition_of members))
select_in other = None

-- the same under a name, of points where there is none
abbrev pub needed_select : List Member → List ℕ → Select
needed_select members name = unwrap_or (found_at select_in members name) (select.Type select_type.Point)

-- a selection
unfoldable pub selection_of : List Member → Selection
selection_of members = record {
  views = texts_at members (codes "views");
  select = needed_select members (codes "select");
}

-- the cell under a name, null where there is none
abbrev pub needed_cell : List Member → List ℕ → Cell
needed_cell members name = unwrap_or (cell_at members name) cell.Null

-- what a parameter is, by the first of these members that is there
unfoldable pub param_kind_of : List Member → ParamKind
param_kind_of members =
    if has_member members (codes "select") then param_kind.Select (selection_of members)
    else (if has_member members (codes "expr") then param_kind.Expr (needed_expression members (codes "expr"))
    else param_kind.Value (needed_cell members (codes "value")))

-- a parameter
unfoldable pub param_of : List Member → ParamOf
param_of members = record { name = needed_text members (codes "name"); kind = param_kind_of members }

-- The rules at work.

-- a mark that says nothing but a size of 1
abbrev a_size : List Member
a_size = record { name = codes "size"; value = json.Number (pos 1000000) } ∷ []

signs_have_a_size : sign_size_at mark_type.Circle a_size (codes "size") ≡ Some (pos 1000000)
unfolding out-Json denote.Hole.Carrier.out
signs_have_a_size = refl

bars_have_none : sign_size_at mark_type.Bar a_size (codes "size") ≡ None
bars_have_none = refl

an_arc_is_no_mark : mark_in (level.Text (codes "arc")) ≡ None
unfolding mark_type_named
an_arc_is_no_mark = refl

false_is_no_event : clear_in (level.Flag false) ≡ None
false_is_no_event = refl

a_parameter_of_a_name_alone : param_kind_of [] ≡ param_kind.Value cell.Null
unfolding param_kind_of
a_parameter_of_a_name_alone = refl
