-- The paddings of a scale, as parts of a step. A band's inner one is the first `paddingInner` that a definition gives, else the first
-- `padding`, else 0.1, or 0 exactly where every unit that shares the scale is a rect; its outer one is the first `paddingOuter`, else the
-- first `padding`, else half of the inner one in use. A point has no width, so its inner padding is 1, whatever is given; its outer one is the
-- first `paddingOuter`, else the first `padding`, else 0.5 for x and y and 0 for opacity and size. Other scales have none.
use Rattle.std.specs.Prelude.{◌≡◌, refl, ℕ, ◌==◌, Bool, true, false, ℤ, pos, Option, Some, None, List, [], ◌∷◌, unwrap_or, if◌then◌else◌}
use Rattle.std.specs.Option.{option_map_or, option_or}
use Rattle.std.specs.List.{list_all}
use Rattle.fixed_num.specs.Number.{million, rounded, floor_quotient}
use Rattle.vl_normalize.specs.declared.codes.TheConstants.{X, Y, OPACITY}
use Rattle.vl_spec.specs.declared.marks.MarkType.{MarkType}
use Rattle.vl_spec.specs.declared.marks.MarkType.TheVariants as mark
use Rattle.vl_spec.specs.declared.definitions.FieldType.TheVariants.{Nominal}
use Rattle.scale_infer.specs.declared.codes.TheConstants.{LINEAR, BAND, POINT, ORDINAL}
use Rattle.scale_infer.specs.declared.said.Said.{Said}
use Rattle.scale_infer.specs.declared.sharers.Sharer.{Sharer}
use Rattle.scale_infer.specs.Said.{first_given}
use Rattle.scale_infer.specs.Kinds.{all_said, is_place}

-- whether a unit is a rect
abbrev pub is_rect : MarkType → Bool
is_rect mark.Bar = false
is_rect mark.Rect = true
is_rect mark.Point = false
is_rect mark.Circle = false
is_rect mark.Square = false
is_rect mark.Line = false
is_rect mark.Area = false
is_rect mark.Tick = false
is_rect mark.Rule = false
is_rect mark.Text = false

abbrev pub has_rects : Sharer → Bool
has_rects s = option_map_or is_rect s.mark false

-- the paddings that definitions give
abbrev pub padding_said : List Said → Option ℤ
padding_said said = first_given (λ (s : Said). s.padding) said

abbrev pub inner_said : List Said → Option ℤ
inner_said said = option_or (first_given (λ (s : Said). s.padding_inner) said) (padding_said said)

abbrev pub outer_said : List Said → Option ℤ
outer_said said = option_or (first_given (λ (s : Said). s.padding_outer) said) (padding_said said)

-- the inner padding of a band where none is given, between rects alone or not, in millionths
abbrev pub default_inner : Bool → ℤ
default_inner rects = if rects then pos 0 else pos 100000

-- the outer padding of a point where none is given, in millionths
abbrev pub default_outer : ℕ → ℤ
default_outer channel = if is_place channel then pos 500000 else pos 0

-- the inner padding of a band
abbrev pub band_inner : Bool → List Said → ℤ
band_inner rects said = unwrap_or (inner_said said) (default_inner rects)

-- the outer padding of a band
abbrev pub band_outer : Bool → List Said → ℤ
band_outer rects said = unwrap_or (outer_said said) (rounded (band_inner rects said) 2)

-- the outer padding of a point
abbrev pub point_outer : ℕ → List Said → ℤ
point_outer channel said = unwrap_or (outer_said said) (default_outer channel)

-- the inner padding of a scale of this kind
abbrev pub inner_by : ℕ → Bool → List Said → ℤ
inner_by kind rects said = if kind == BAND then band_inner rects said else (if kind == POINT then pos million else pos 0)

-- the outer padding of a scale of this kind
abbrev pub outer_by : ℕ → ℕ → Bool → List Said → ℤ
outer_by kind channel rects said =
    if kind == BAND then band_outer rects said else (if kind == POINT then point_outer channel said else pos 0)

-- the paddings of a scale of this kind that these units share
abbrev pub inner_of : ℕ → List Sharer → ℤ
inner_of kind sharers = inner_by kind (list_all has_rects sharers) (all_said sharers)

abbrev pub outer_of : ℕ → ℕ → List Sharer → ℤ
outer_of kind channel sharers = outer_by kind channel (list_all has_rects sharers) (all_said sharers)

-- The rules at work.

-- what names say, with these paddings
abbrev pub padded : Option ℤ → Option ℤ → Option ℤ → Said
padded both inner outer = record {
  type_ = Nominal;
  is_binned = false;
  has_domain = false;
  kind = None;
  zero = None;
  nice = None;
  padding = both;
  padding_inner = inner;
  padding_outer = outer;
}

abbrev unit_padded : MarkType → Said → Sharer
unit_padded type_ s = record { mark = Some type_; x_is_measure = false; says = s ∷ [] }

abbrev bare : Said
bare = padded None None None

bars_by_default : (inner_of BAND (unit_padded mark.Bar bare ∷ []) ≡ pos 100000) × (outer_of BAND X (unit_padded mark.Bar bare ∷ []) ≡ pos 50000)
unfolding rounded floor_quotient
bars_by_default = (refl, refl)

rects_touch : (inner_of BAND (unit_padded mark.Rect bare ∷ []) ≡ pos 0) × (outer_of BAND X (unit_padded mark.Rect bare ∷ []) ≡ pos 0)
unfolding rounded floor_quotient
rects_touch = (refl, refl)

not_beside_other_marks : inner_of BAND (unit_padded mark.Rect bare ∷ unit_padded mark.Text bare ∷ []) ≡ pos 100000
not_beside_other_marks = refl

half_of_the_inner_in_use : outer_of BAND Y (unit_padded mark.Bar (padded None (Some (pos 333333)) None) ∷ []) ≡ pos 166667
unfolding rounded floor_quotient
half_of_the_inner_in_use = refl

padding_gives_both : (inner_of BAND (unit_padded mark.Bar (padded (Some (pos 200000)) None None) ∷ []) ≡ pos 200000)
    × (outer_of BAND X (unit_padded mark.Bar (padded (Some (pos 200000)) None None) ∷ []) ≡ pos 200000)
padding_gives_both = (refl, refl)

each_of_its_own_before : (inner_of BAND
    (unit_padded mark.Bar (padded (Some (pos 200000)) None None) ∷ unit_padded mark.Bar (padded None (Some (pos 1)) None) ∷ []) ≡ pos 1)
    × (outer_of BAND X (unit_padded mark.Bar (padded (Some (pos 200000)) None None) ∷ unit_padded mark.Bar (padded None (Some (pos 1)) None) ∷ []) ≡ pos 200000)
each_of_its_own_before = (refl, refl)

points_by_default : (inner_of POINT (unit_padded mark.Circle bare ∷ []) ≡ pos million) × (outer_of POINT Y (unit_padded mark.Circle bare ∷ []) ≡ pos 500000)
points_by_default = (refl, refl)

points_of_opacity : outer_of POINT OPACITY (unit_padded mark.Circle bare ∷ []) ≡ pos 0
points_of_opacity = refl

points_have_no_inner : (inner_of POINT (unit_padded mark.Circle (padded (Some (pos 3)) (Some (pos 4)) None) ∷ []) ≡ pos million)
    × (outer_of POINT X (unit_padded mark.Circle (padded (Some (pos 3)) (Some (pos 4)) None) ∷ []) ≡ pos 3)
points_have_no_inner = (refl, refl)

no_paddings : (inner_of ORDINAL (unit_padded mark.Bar (padded (Some (pos 3)) None None) ∷ []) ≡ pos 0)
    × (outer_of LINEAR X (unit_padded mark.Bar bare ∷ []) ≡ pos 0)
no_paddings = (refl, refl)
