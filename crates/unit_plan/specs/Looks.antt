-- Looks, branch by branch: what is written, or what the channel's scale gives for a cell; and where nothing is said for a row, the default. The
-- colour is that of the mark, without it black for texts and rules, and blue. The opacity is that of the mark, without it 0.7 for points, ticks,
-- circles and squares of a unit that doesn't aggregate its rows, else 1. The size of a sign is that of the mark, without it 30. The colour paints the
-- line of lines, rules and points that aren't filled, and the inside of others; that line is as wide as the mark says, without it 1 for rules and 2
-- for others.
use Rattle.std.specs.Prelude.{ℕ, ◌*◌, ◌&&◌, not, ℤ, pos, Bool, true, false, Option, Some, None, List, [], ◌∷◌, ◌++◌, codes, map, unwrap_or, if◌then◌else◌}
use Rattle.std.specs.Option.{option_and_then, option_map_or}
use Rattle.fixed_num.specs.Number.{million}
use Rattle.cell_value.specs.declared.cell.Cell.{Cell}
use Rattle.cell_value.specs.declared.cell.Cell.TheVariants as cell
use Rattle.vl_normalize.specs.declared.codes.TheConstants.{COLOR, OPACITY, SIZE, SHAPE}
use Rattle.vl_normalize.specs.Marks.{mark_type_of}
use Rattle.vl_spec.specs.declared.definitions.Definition.{Definition}
use Rattle.vl_spec.specs.declared.definitions.Definition.TheVariants as definition
use Rattle.vl_spec.specs.declared.marks.Mark.{Mark}
use Rattle.vl_spec.specs.declared.marks.Mark.TheVariants as mark
use Rattle.vl_spec.specs.declared.marks.MarkDefinition.{MarkDefinition}
use Rattle.vl_spec.specs.declared.marks.MarkType.{MarkType}
use Rattle.vl_spec.specs.declared.marks.MarkType.TheVariants as mark_type
use Rattle.vl_compose.specs.Units.{UnitAt}
use Rattle.plan_kit.specs.declared.marks.Look.{Look}
use Rattle.plan_kit.specs.declared.marks.Look.TheVariants.{Written, OnScale}
use Rattle.plan_kit.specs.declared.marks.LookWay.{LookWay}
use Rattle.unit_plan.specs.declared.seen.ScaleSeen.{ScaleSeen}
use Rattle.unit_plan.specs.Branches.{Branch, covers}
use Rattle.unit_plan.specs.Cells.{cell_of}
use Rattle.unit_plan.specs.Filters.{all_hold}
use Rattle.unit_plan.specs.Groups.{aggregates}
use Rattle.unit_plan.specs.Lanes.{branches_at}
use Rattle.unit_plan.specs.Seen.{seen_at}

-- what a channel's scale gives for the cell of a definition; each channel with one has a scale
abbrev pub scaled : ℕ → Option ScaleSeen → Definition → Look
scaled channel None d = Written cell.Null
scaled channel (Some s) d = OnScale s.number (cell_of channel d)

-- what a definition of a channel shows
abbrev pub look_of : ℕ → Option ScaleSeen → Definition → Look
look_of channel scale (definition.Value c) = Written c
look_of channel scale (definition.Datum d) = scaled channel scale (definition.Datum d)
look_of channel scale (definition.Field d) = scaled channel scale (definition.Field d)

abbrev pub look_way : (List ℕ → Bool) → ℕ → Option ScaleSeen → Branch → LookWay
look_way is_selection channel scale b = record { test = all_hold is_selection b.tests; gives = look_of channel scale b.shows }

-- a look that is written
abbrev pub fixed : Cell → LookWay
fixed c = record { test = None; gives = Written c }

-- the looks of some branches, and a default where none counts
abbrev pub looks_by : (List ℕ → Bool) → ℕ → Option ScaleSeen → Cell → List Branch → List LookWay
looks_by is_selection channel scale default branches =
    map (look_way is_selection channel scale) branches ++ (if covers branches then [] else fixed default ∷ [])

-- those of a channel of a unit
abbrev pub looks_at : (List ℕ → Bool) → UnitAt → List ScaleSeen → ℕ → Cell → List LookWay
looks_at is_selection unit scales channel default = looks_by is_selection channel (seen_at scales channel) default (branches_at unit.channels channel)

-- what a mark says besides its type
abbrev pub said_in : Mark → Option MarkDefinition
said_in (mark.Type type) = None
said_in (mark.Definition d) = Some d

abbrev pub mark_said : UnitAt → Option MarkDefinition
mark_said unit = option_and_then said_in unit.mark

-- the type of the mark of a unit; a unit without one, which no accepted specification has, is a point
abbrev pub type_of_mark : Option Mark → MarkType
type_of_mark m = option_map_or mark_type_of m mark_type.Point

abbrev pub mark_of : UnitAt → MarkType
mark_of unit = type_of_mark unit.mark

-- whether a mark is black by itself
abbrev pub is_black : MarkType → Bool
is_black mark_type.Bar = false
is_black mark_type.Rect = false
is_black mark_type.Point = false
is_black mark_type.Circle = false
is_black mark_type.Square = false
is_black mark_type.Line = false
is_black mark_type.Area = false
is_black mark_type.Tick = false
is_black mark_type.Rule = true
is_black mark_type.Text = true

abbrev pub plain_color : MarkType → List ℕ
plain_color type = if is_black type then codes "#000" else codes "#4c78a8"

abbrev pub color_said : Option MarkDefinition → Option (List ℕ)
color_said said = option_and_then (λ (d : MarkDefinition). d.color) said

abbrev pub default_color : UnitAt → Cell
default_color unit = cell.Text (unwrap_or (color_said (mark_said unit)) (plain_color (mark_of unit)))

-- whether a mark lets others be seen through it
abbrev pub is_light : MarkType → Bool
is_light mark_type.Bar = false
is_light mark_type.Rect = false
is_light mark_type.Point = true
is_light mark_type.Circle = true
is_light mark_type.Square = true
is_light mark_type.Line = false
is_light mark_type.Area = false
is_light mark_type.Tick = true
is_light mark_type.Rule = false
is_light mark_type.Text = false

abbrev pub plain_opacity : Bool → MarkType → ℤ
plain_opacity aggregated type = if is_light type && not aggregated then pos 700000 else pos million

abbrev pub opacity_said : Option MarkDefinition → Option ℤ
opacity_said said = option_and_then (λ (d : MarkDefinition). d.opacity) said

abbrev pub default_opacity : UnitAt → Cell
default_opacity unit = cell.Number (unwrap_or (opacity_said (mark_said unit)) (plain_opacity (aggregates unit) (mark_of unit)))

abbrev pub size_said : Option MarkDefinition → Option ℤ
size_said said = option_and_then (λ (d : MarkDefinition). d.size) said

abbrev pub default_size : UnitAt → Cell
default_size unit = cell.Number (unwrap_or (size_said (mark_said unit)) (pos (30 * million)))

-- whether the mark says that it is filled
abbrev pub is_filled : Option MarkDefinition → Bool
is_filled said = option_map_or (λ (d : MarkDefinition). unwrap_or d.filled false) said false

-- whether the colour is that of a line
abbrev pub is_stroked : MarkType → Bool → Bool
is_stroked mark_type.Bar filled = false
is_stroked mark_type.Rect filled = false
is_stroked mark_type.Point filled = not filled
is_stroked mark_type.Circle filled = false
is_stroked mark_type.Square filled = false
is_stroked mark_type.Line filled = true
is_stroked mark_type.Area filled = false
is_stroked mark_type.Tick filled = false
is_stroked mark_type.Rule filled = true
is_stroked mark_type.Text filled = false

abbrev pub stroked : UnitAt → Bool
stroked unit = is_stroked (mark_of unit) (is_filled (mark_said unit))

-- how wide that line is
abbrev pub is_rule : MarkType → Bool
is_rule mark_type.Bar = false
is_rule mark_type.Rect = false
is_rule mark_type.Point = false
is_rule mark_type.Circle = false
is_rule mark_type.Square = false
is_rule mark_type.Line = false
is_rule mark_type.Area = false
is_rule mark_type.Tick = false
is_rule mark_type.Rule = true
is_rule mark_type.Text = false

abbrev pub plain_width : MarkType → ℤ
plain_width type = if is_rule type then pos million else pos (2 * million)

abbrev pub width_said : Option MarkDefinition → Option ℤ
width_said said = option_and_then (λ (d : MarkDefinition). d.stroke_width) said

abbrev pub line_width : UnitAt → Option ℤ
line_width unit = if stroked unit then Some (unwrap_or (width_said (mark_said unit)) (plain_width (mark_of unit))) else None

-- the looks of a unit
abbrev pub color_in : (List ℕ → Bool) → UnitAt → List ScaleSeen → List LookWay
color_in is_selection unit scales = looks_at is_selection unit scales COLOR (default_color unit)

abbrev pub opacity_in : (List ℕ → Bool) → UnitAt → List ScaleSeen → List LookWay
opacity_in is_selection unit scales = looks_at is_selection unit scales OPACITY (default_opacity unit)

abbrev pub size_in : (List ℕ → Bool) → UnitAt → List ScaleSeen → List LookWay
size_in is_selection unit scales = looks_at is_selection unit scales SIZE (default_size unit)

-- the sign of a point; circles and squares have theirs by their type
abbrev pub sign_by : MarkType → List LookWay → List LookWay
sign_by mark_type.Bar shapes = []
sign_by mark_type.Rect shapes = []
sign_by mark_type.Point shapes = shapes
sign_by mark_type.Circle shapes = fixed (cell.Text (codes "circle")) ∷ []
sign_by mark_type.Square shapes = fixed (cell.Text (codes "square")) ∷ []
sign_by mark_type.Line shapes = []
sign_by mark_type.Area shapes = []
sign_by mark_type.Tick shapes = []
sign_by mark_type.Rule shapes = []
sign_by mark_type.Text shapes = []

abbrev pub sign_in : (List ℕ → Bool) → UnitAt → List ScaleSeen → List LookWay
sign_in is_selection unit scales = sign_by (mark_of unit) (looks_at is_selection unit scales SHAPE (cell.Text (codes "circle")))
