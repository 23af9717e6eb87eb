-- What the transforms of data sets give.
use Rattle.std.specs.Prelude.{ℕ, nat_lt, ◌||◌, if◌then◌else◌, Option, Some, None, List, [], ◌∷◌, ◌++◌, length, drop, codes}
use Rattle.std.specs.Option.{option_map, option_map_or}
use Rattle.json_exact.specs.declared.json.Json.{Json}
use Rattle.spec_schema.specs.declared.spec_error.SpecKind.TheVariants.{Wrong}
use Rattle.vega_parts.specs.declared.part.Part.{Part}
use Rattle.vega_parts.specs.declared.part.Part.TheVariants as part
use Rattle.vega_parts.specs.declared.part.Given.TheVariants as give
use Rattle.vega_parts.specs.declared.part.Used.TheVariants as for_
use Rattle.vega_parts.specs.Members.{has_member, text_at, items_at, says_text}
use Rattle.vega_parts.specs.Trails.{Trail, Place, place_of, child, scope_of}
use Rattle.vega_parts.specs.Names.{given, used_member}
use Rattle.vega_parts.specs.Lengths.{other_length}

-- the data set of a transform: its list of transforms stands in it
abbrev pub data_of : Trail → Place
data_of trail = place_of (drop 2 trail)

-- the signal of an extent has a name like others
abbrev pub extent_name : Trail → Json → List Part
extent_name trail tree = option_map_or (λ (m : ℕ × List ℕ). given give.Signal (scope_of trail) (place_of trail) (child trail m.0) m.1 ∷ [])
    (text_at (codes "signal") tree) []

-- a list is longer than another has items
abbrev pub longer_list : ℕ → List ℕ → Trail → Json → List Part
longer_list count name trail tree =
    option_map_or (λ (m : ℕ × List Json). if nat_lt count (length m.1) then part.Fault (child trail m.0) Wrong ∷ [] else [])
    (items_at name tree) []

-- how many operations a window has
abbrev pub count_of_window : Json → Option ℕ
count_of_window tree = option_map (λ (m : ℕ × List Json). length m.1) (items_at (codes "ops") tree)

-- how many an aggregate has: one where they are absent
abbrev pub count_of_ops : Json → Option ℕ
count_of_ops tree = if has_member (codes "ops") tree then count_of_window tree else Some 1

-- the lists of an aggregate aren't longer than its operations
abbrev pub aggregate_lists : Option ℕ → Trail → Json → List Part
aggregate_lists None trail tree = []
aggregate_lists (Some count) trail tree = longer_list count (codes "fields") trail tree ++ longer_list count (codes "as") trail tree

-- nor are those of a window
abbrev pub window_lists : Option ℕ → Trail → Json → List Part
window_lists None trail tree = []
window_lists (Some count) trail tree =
    longer_list count (codes "fields") trail tree ++ longer_list count (codes "params") trail tree
    ++ longer_list count (codes "as") trail tree

-- a lookup uses a data set, and has as many new names as values
abbrev pub lookup_parts : Trail → Json → List Part
lookup_parts trail tree = used_member for_.From (codes "from") trail tree ++ other_length (codes "as") (codes "values") trail tree

-- how many fields a fold has
abbrev pub fold_fields : Trail → Json → List Part
fold_fields trail tree = option_map_or (λ (m : ℕ × List Json). part.Fold (place_of trail) (data_of trail) (length m.1) ∷ [])
    (items_at (codes "fields") tree) []

-- what a transform gives by its type
abbrev pub by_type : Trail → Json → List Part
by_type trail tree = if says_text (codes "type") (codes "extent") tree then extent_name trail tree
    else (if says_text (codes "type") (codes "lookup") tree then lookup_parts trail tree
    else (if says_text (codes "type") (codes "fold") tree then fold_fields trail tree
    else (if says_text (codes "type") (codes "window") tree then window_lists (count_of_window tree) trail tree
    else (if says_text (codes "type") (codes "aggregate") tree || says_text (codes "type") (codes "joinaggregate") tree
    then aggregate_lists (count_of_ops tree) trail tree else []))))

-- the transform itself
abbrev pub step : Trail → List Part
step trail = part.Step (place_of trail) (data_of trail) ∷ []

-- what a transform gives
abbrev pub transform_parts : Trail → Json → List Part
transform_parts trail tree = step trail ++ by_type trail tree
