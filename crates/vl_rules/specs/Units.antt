-- What is asked of each unit, with all that stands round it.
use Rattle.std.specs.Prelude.{◌≡◌, refl, ℕ, Bool, true, false, not, ◌&&◌, Option, Some, None, List, [], ◌∷◌, ◌++◌, bytes_eq, codes, find}
use Rattle.std.specs.Prelude.{flat_map, is_none, is_some, slice_get, if◌then◌else◌}
use Rattle.std.specs.Option.{option_map_or}
use Rattle.json_exact.specs.Inside.{text_in}
use Rattle.json_exact.specs.declared.json.Json.{Json, out-Json}
use Rattle.spec_schema.specs.declared.spec_error.SpecKind.TheVariants.{Unsupported}
use Rattle.vl_spec.specs.declared.marks.Mark.{Mark}
use Rattle.vl_spec.specs.declared.marks.Mark.TheVariants as mark
use Rattle.vl_spec.specs.declared.marks.MarkType.{MarkType}
use Rattle.vl_spec.specs.declared.marks.MarkType.TheVariants as mark_type
use Rattle.vl_normalize.specs.declared.codes.TheConstants.{X, Y, X2, Y2, SIZE}
use Rattle.vl_normalize.specs.Channels.{has_channel}
use Rattle.vl_normalize.specs.Marks.{mark_type_of, pointed}
use Rattle.vl_compose.specs.Views.{source_of}
use Rattle.vl_trails.specs.declared.fault.RuleFault.{RuleFault}
use Rattle.vl_trails.specs.Faults.{fault_if, missing_at, wrong_at, wrong_if}
use Rattle.vl_trails.specs.Trails.{Trail, to_member, value_at}
use Rattle.vl_rules.specs.declared.marked.TheConstants.{MOST_UNITS}
use Rattle.vl_rules.specs.declared.units.TheConstants.{DATA_RULE}
use Rattle.vl_names.specs.Channels.{channel_name}
use Rattle.vl_rules.specs.Leads.{LedAt, channel_in, channel_trail, has_encoding, holds, led, may_hold}
use Rattle.vl_rules.specs.Marked.{MarkedAt}

-- the steps to the first of some views that has a member `data`
abbrev pub data_among : Json → List LedAt → Trail → Trail
data_among tree views own = option_map_or (λ (l : LedAt). l.trail) (find (λ (l : LedAt). holds tree l.trail (codes "data")) views) own

-- A unit has rows: itself or a view round it has `data`. Else `data` is missing at the unit; but where a view round it has a member `data` that says
-- nothing, at that view, behind its members, of which that one is at fault.
abbrev pub without_data : Json → MarkedAt → List RuleFault
without_data tree u =
    if is_none (source_of u.round) then missing_at (data_among tree (led u.round) u.trail) DATA_RULE (codes "data") ∷ [] else []

-- whether the encoding of a view has a member for the channel of a code, or is no object and might have one
abbrev pub encodes : Json → ℕ → LedAt → Bool
encodes tree code l = has_encoding l.view.kind && may_hold tree (to_member l.trail (codes "encoding")) (channel_name code)

-- the steps to that member of the first of some views that has it
abbrev pub start_among : Json → List LedAt → ℕ → Trail → Trail
start_among tree views code otherwise = option_map_or (λ (l : LedAt). channel_in l.trail code) (find (encodes tree code) views) otherwise

-- an end stands without the start
abbrev pub lone_end : Json → ℕ → ℕ → MarkedAt → List RuleFault
lone_end tree end start u =
    wrong_if (has_channel u.channels end && not (has_channel u.channels start)) (start_among tree (led u.round) start (channel_trail u.round end))

-- `x2` doesn't stand without `x`, nor `y2` without `y`, where the channels of the layers round a unit count among its own. Else the end is wrong where
-- it stands; but where the start is there and is no channel, the start, and where an encoding is none, that alone is at fault.
abbrev pub lone_ends : Json → MarkedAt → List RuleFault
lone_ends tree u = lone_end tree X2 X u ++ lone_end tree Y2 Y u

-- whether marks of a type are signs, which have a size
abbrev pub is_sign : MarkType → Bool
is_sign mark_type.Bar = false
is_sign mark_type.Rect = false
is_sign mark_type.Point = true
is_sign mark_type.Circle = true
is_sign mark_type.Square = true
is_sign mark_type.Line = false
is_sign mark_type.Area = false
is_sign mark_type.Tick = false
is_sign mark_type.Rule = false
is_sign mark_type.Text = false

abbrev pub is_bar : MarkType → Bool
is_bar mark_type.Bar = true
is_bar mark_type.Rect = false
is_bar mark_type.Point = false
is_bar mark_type.Circle = false
is_bar mark_type.Square = false
is_bar mark_type.Line = false
is_bar mark_type.Area = false
is_bar mark_type.Tick = false
is_bar mark_type.Rule = false
is_bar mark_type.Text = false

-- whether a value is this text
abbrev pub is_text : List ℕ → Json → Bool
is_text text value = option_map_or (λ other. bytes_eq other text) (text_in (out-Json value)) false

-- whether a mark is no sign; a unit that lacks a mark has none that could be
abbrev pub is_plain : Option Mark → Bool
is_plain m = option_map_or (λ (m : Mark). not (is_sign (mark_type_of m))) m false

-- whether a mark is an object of bars; a type that is ill-formed counts as this one
abbrev pub may_lack_type : Option Mark → Bool
may_lack_type None = false
may_lack_type (Some (mark.Type type_)) = false
may_lack_type (Some (mark.Definition d)) = is_bar d.type_

-- the steps from a unit to the type of its mark
abbrev pub type_trail : Trail → Trail
type_trail trail = to_member (to_member trail (codes "mark")) (codes "type")

-- whether the text `bar` stands there
abbrev pub says_bar : Json → Trail → Bool
says_bar tree trail = option_map_or (λ (value : Json). is_text (codes "bar") value) (value_at tree (type_trail trail)) false

-- where the size of a unit is at fault: in the encoding of the unit or of a layer round it; but where its mark has a type that is ill-formed, at that
abbrev pub size_trail : Json → MarkedAt → Trail
size_trail tree u = if may_lack_type u.mark && not (says_bar tree u.trail) then type_trail u.trail else channel_trail u.round SIZE

-- The channel `size` is for points, circles and squares alone. With another mark, also a line with points, it is unsupported.
abbrev pub useless_size : Json → MarkedAt → List RuleFault
useless_size tree u = fault_if (has_channel u.channels SIZE && is_plain u.mark) Unsupported (size_trail tree u)

-- a unit as often as it counts: a line with points is two
abbrev pub counted : MarkedAt → List MarkedAt
counted u = if is_some (pointed u.mark) then u ∷ u ∷ [] else u ∷ []

-- There are at most 32 units. The 33rd, in the order of the text, is wrong.
abbrev pub one_too_many : List MarkedAt → List RuleFault
one_too_many units = option_map_or (λ (u : MarkedAt). wrong_at u.trail ∷ []) (slice_get (flat_map counted units) MOST_UNITS) []

-- The rules at work.

bars_have_no_size : is_plain (Some (mark.Type mark_type.Bar)) ≡ true
bars_have_no_size = refl

squares_have_one : is_plain (Some (mark.Type mark_type.Square)) ≡ false
squares_have_one = refl

no_mark_is_no_wrong_one : is_plain None ≡ false
no_mark_is_no_wrong_one = refl

thirty_two_and_no_more : MOST_UNITS ≡ 32
thirty_two_and_no_more = refl
