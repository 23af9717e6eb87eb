-- What is asked of selections.
use Rattle.std.specs.Prelude.{ℕ, ◌==◌, Bool, true, false, not, ◌&&◌, ◌||◌, List, [], ◌∷◌, filter, flat_map, slice_get, unwrap_or, bytes_eq, if◌then◌else◌}
use Rattle.std.specs.Option.{option_map_or}
use Rattle.std.specs.List.{list_all, list_any}
use Rattle.spec_walk.specs.declared.places.Step.{Step}
use Rattle.spec_walk.specs.declared.places.Step.TheVariants.{Name, Number}
use Rattle.vl_spec.specs.declared.params.Select.{Select}
use Rattle.vl_spec.specs.declared.params.Select.TheVariants as select
use Rattle.vl_spec.specs.declared.params.SelectType.{SelectType}
use Rattle.vl_spec.specs.declared.params.SelectType.TheVariants as select_type
use Rattle.vl_spec.specs.declared.params.Selection.{Selection}
use Rattle.vl_normalize.specs.declared.codes.TheConstants.{X, Y}
use Rattle.vl_compose.specs.Sharing.{is_filled}
use Rattle.vl_trails.specs.Trails.{Trail}
use Rattle.vl_rules.specs.declared.offers.Asked.{Asked}
use Rattle.vl_rules.specs.declared.offers.Offer.{Offer}
use Rattle.vl_rules.specs.declared.offers.OfferedPlace.{OfferedPlace}
use Rattle.vl_rules.specs.declared.selections.Asking.{Asking}
use Rattle.vl_rules.specs.Offers.{channel_codes}
use Rattle.vl_rules.specs.Standings.{same_home}

-- ---- what a selection says

abbrev pub is_interval_type : SelectType → Bool
is_interval_type select_type.Point = false
is_interval_type select_type.Interval = true

abbrev pub is_interval : Select → Bool
is_interval (select.Type type_) = is_interval_type type_
is_interval (select.Definition d) = is_interval_type d.type_

-- the fields that a selection says, and the channels; an empty list counts as absent
abbrev pub fields_of : Select → List (List ℕ)
fields_of (select.Type type_) = []
fields_of (select.Definition d) = unwrap_or d.fields []

abbrev pub encodings_of : Select → List ℕ
encodings_of (select.Type type_) = []
encodings_of (select.Definition d) = unwrap_or d.encodings []

-- whether the channel of a code is among some
abbrev pub is_named : List ℕ → ℕ → Bool
is_named encodings code = list_any (λ c. c == code) encodings

-- the channels of a selection that says none: of an interval x and y
abbrev pub unnamed : Bool → List ℕ
unnamed interval = if interval then X ∷ Y ∷ [] else []

-- the channels that a selection is over, each once
abbrev pub codes_over : Bool → List ℕ → List ℕ
codes_over interval encodings = if is_filled encodings then filter (is_named encodings) channel_codes else unnamed interval

-- what a selection says
abbrev pub asking_of : Select → Asking
asking_of s = record {
  interval = is_interval s;
  says_fields = is_filled (fields_of s);
  says_channels = is_filled (encodings_of s);
  codes = codes_over (is_interval s) (encodings_of s);
}

-- ---- what it concerns

abbrev pub same_step : Step → Step → Bool
same_step (Name a) (Name b) = bytes_eq a b
same_step (Name a) (Number n) = false
same_step (Number m) (Name b) = false
same_step (Number m) (Number n) = m == n

-- whether a trail begins with the steps of another
abbrev pub begins : Trail → Trail → Bool
begins [] trail = true
begins (s ∷ steps) [] = false
begins (s ∷ steps) (t ∷ trail) = same_step s t && begins steps trail

-- whether a unit stands below the view at a trail, or is it
abbrev pub is_below : Trail → Offer → Bool
is_below trail o = begins trail o.trail

-- the units below the view at a trail
abbrev pub below : Trail → List Offer → List Offer
below trail offers = filter (is_below trail) offers

-- whether a unit is a view of one of these names, or stands below one
abbrev pub is_under : List (List ℕ) → Offer → Bool
is_under names o = list_any (λ name. list_any (λ n. bytes_eq n name) o.names) names

-- the units that a selection concerns, of all and of those below the view that has it: these, or those of the views that it names, wherever they stand
abbrev pub concerned : List Offer → List Offer → Selection → List Offer
concerned offers inside s = option_map_or (λ names. filter (is_under names) offers) s.views inside

-- ---- what is asked

-- what a unit has for a channel; nothing for a code that is none
abbrev pub no_asked : Asked
no_asked = record { sourced = false; names = []; extents = [] }

abbrev pub asked_for : ℕ → Offer → Asked
asked_for code o = unwrap_or (slice_get o.asked code) no_asked

-- whether a unit lacks both a field and an aggregate for one of some channels
abbrev pub lacks_source : List ℕ → Offer → Bool
lacks_source codes o = list_any (λ code. not (asked_for code o).sourced) codes

-- The channels that a selection is over have a field or an aggregate, in each unit that it concerns.
abbrev pub is_over_nothing : Asking → List Offer → Bool
is_over_nothing s units = list_any (lacks_source s.codes) units

abbrev pub is_place : ℕ → Bool
is_place code = code == X || code == Y

-- the place of a code
abbrev pub spot_for : ℕ → Offer → OfferedPlace
spot_for code o = if code == X then o.x else o.y

-- whether an interval may not span one of some places of a unit
abbrev pub cant_span : List ℕ → Offer → Bool
cant_span codes o = list_any (λ code. not (spot_for code o).spans) codes

-- An interval is over x and y alone, and over cells on a line, in each unit that it concerns.
abbrev pub is_no_span : Asking → List Offer → Bool
is_no_span s units = s.interval && (list_any (λ code. not (is_place code)) s.codes || list_any (cant_span s.codes) units)

-- whether a property holds of one of some units and the next
abbrev pub of_neighbours : (Offer → Offer → Bool) → List Offer → Bool
of_neighbours has [] = false
of_neighbours has (a ∷ []) = false
of_neighbours has (a ∷ b ∷ others) = has a b || of_neighbours has (b ∷ others)

-- whether a name is among some
abbrev pub is_among : List (List ℕ) → List ℕ → Bool
is_among names name = list_any (bytes_eq name) names

-- whether names are the same, whatever their order and however often each is there
abbrev pub same_names : List (List ℕ) → List (List ℕ) → Bool
same_names xs ys = list_all (is_among ys) xs && list_all (is_among xs) ys

-- all names that a unit keeps for some channels
abbrev pub names_over : List ℕ → Offer → List (List ℕ)
names_over codes o = flat_map (λ code. (asked_for code o).names) codes

-- whether two units keep the same fields of points: those of the channels, or where none is said the default
abbrev pub keep_same_points : Asking → Offer → Offer → Bool
keep_same_points s a b =
    if s.says_channels then same_names (names_over s.codes a) (names_over s.codes b) else same_names a.kept b.kept

-- whether they keep the same extents: channel by channel the same fields
abbrev pub keep_same_extents : List ℕ → Offer → Offer → Bool
keep_same_extents codes a b = list_all (λ code. same_names (asked_for code a).extents (asked_for code b).extents) codes

unfoldable pub keep_same : Asking → Offer → Offer → Bool
keep_same s a b = if s.interval then keep_same_extents s.codes a b else (s.says_fields || keep_same_points s a b)

-- The units that a selection concerns keep the same fields. Those that it says itself are the same in each.
abbrev pub is_unlike : Asking → List Offer → Bool
is_unlike s units = of_neighbours (λ a b. not (keep_same s a b)) units

-- whether two units in one plot have different scales for one of some channels
abbrev pub part_scales : List ℕ → Offer → Offer → Bool
part_scales codes a b = a.plot == b.plot && list_any (λ code. not (same_home (spot_for code a).home (spot_for code b).home)) codes

-- The units in one plot that an interval concerns have one scale for each of its channels. They stand one after the other.
abbrev pub is_parted : Asking → List Offer → Bool
is_parted s units = s.interval && of_neighbours (part_scales s.codes) units

-- A selection that is none of these is right. Else it is wrong where its `select` stands.
abbrev pub is_wrong_for : Asking → List Offer → Bool
is_wrong_for s units = is_over_nothing s units || (is_no_span s units || (is_unlike s units || is_parted s units))
