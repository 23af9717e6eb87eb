-- Which channels a mark has a use for, and lines with points.
use Rattle.std.specs.Prelude.{◌≡◌, refl, ℕ, ◌==◌, Bool, true, false, ◌||◌, ◌&&◌, not, Option, Some, None, List, [], ◌∷◌, filter, unwrap_or, if◌then◌else◌}
use Rattle.std.specs.Option.{option_map_or}
use Rattle.vl_spec.specs.declared.channels.ChannelKind.{ChannelKind}
use Rattle.vl_spec.specs.declared.channels.ChannelOf.{ChannelOf}
use Rattle.vl_spec.specs.declared.marks.Mark.{Mark}
use Rattle.vl_spec.specs.declared.marks.Mark.TheVariants as mark
use Rattle.vl_spec.specs.declared.marks.MarkDefinition.{MarkDefinition}
use Rattle.vl_spec.specs.declared.marks.MarkType.{MarkType}
use Rattle.vl_spec.specs.declared.marks.MarkType.TheVariants as mark_type
use Rattle.vl_normalize.specs.declared.codes.TheConstants.{X, SHAPE, TEXT, ROW}
use Rattle.vl_normalize.specs.Facets.{is_facet}

-- the type of a mark
abbrev pub mark_type_of : Mark → MarkType
mark_type_of (mark.Type type) = type
mark_type_of (mark.Definition d) = d.type_

abbrev pub is_point_type : MarkType → Bool
is_point_type mark_type.Point = true
is_point_type type = false

abbrev pub is_line_type : MarkType → Bool
is_line_type mark_type.Line = true
is_line_type type = false

abbrev pub is_text_type : MarkType → Bool
is_text_type mark_type.Text = true
is_text_type type = false

abbrev pub is_point : Option Mark → Bool
is_point m = option_map_or (λ (m : Mark). is_point_type (mark_type_of m)) m false

abbrev pub is_text : Option Mark → Bool
is_text m = option_map_or (λ (m : Mark). is_text_type (mark_type_of m)) m false

-- whether a mark has a use for channels of this code: no mark for those that part rows, points alone for a shape, and texts alone for a text
abbrev pub is_used : Option Mark → ℕ → Bool
is_used m code = not (is_facet code) && (not (code == SHAPE) || is_point m) && (not (code == TEXT) || is_text m)

-- the channels that a mark has a use for
abbrev pub used : Option Mark → List ChannelOf → List ChannelOf
used m channels = filter (λ (c : ChannelOf). is_used m c.channel) channels

-- whether a mark is a line with points
abbrev pub has_points : MarkDefinition → Bool
has_points d = is_line_type d.type_ && unwrap_or d.point false

-- the definition of a line with points
abbrev pub pointed : Option Mark → Option MarkDefinition
pointed None = None
pointed (Some (mark.Type type)) = None
pointed (Some (mark.Definition d)) = if has_points d then Some d else None

-- its line
abbrev pub line_of : MarkDefinition → MarkDefinition
line_of d = record d { point = None }

-- its points: filled, and with the line's other members
abbrev pub points_of : MarkDefinition → MarkDefinition
points_of d = record d { type_ = mark_type.Point; filled = Some true; point = None }

-- The rules at work.

-- a channel of a code
channel : ℕ → ChannelKind → ChannelOf
channel code shows = record { channel = code; shows = shows }

a_bar_has_no_shape : (x s r : ChannelKind) →
    used (Some (mark.Type mark_type.Bar)) (channel X x ∷ channel SHAPE s ∷ channel ROW r ∷ []) ≡ channel X x ∷ []
unfolding channel
a_bar_has_no_shape x s r = refl

a_point_has_a_shape : (s : ChannelKind) → used (Some (mark.Type mark_type.Point)) (channel SHAPE s ∷ []) ≡ channel SHAPE s ∷ []
unfolding channel
a_point_has_a_shape s = refl

a_line_by_its_type_alone_has_no_points : pointed (Some (mark.Type mark_type.Line)) ≡ None
a_line_by_its_type_alone_has_no_points = refl
