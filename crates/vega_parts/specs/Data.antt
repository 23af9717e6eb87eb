-- What data sets give.
use Rattle.std.specs.Prelude.{ℕ, ◌==◌, Bool, false, ◌&&◌, ◌||◌, if◌then◌else◌, List, [], ◌∷◌, ◌++◌, codes}
use Rattle.std.specs.Option.{option_map_or}
use Rattle.json_exact.specs.declared.json.Json.{Json}
use Rattle.spec_schema.specs.declared.spec_error.SpecKind.TheVariants.{Unsupported}
use Rattle.vega_parts.specs.declared.part.Part.{Part}
use Rattle.vega_parts.specs.declared.part.Part.TheVariants as part
use Rattle.vega_parts.specs.declared.part.Given.TheVariants as give
use Rattle.vega_parts.specs.declared.part.Used.TheVariants as for_
use Rattle.vega_parts.specs.Members.{has_member, text_at}
use Rattle.vega_parts.specs.Trails.{Trail, place_of, child, scope_of, object_round, is_faceted}
use Rattle.vega_parts.specs.Names.{given, used_member, fault_member}

-- the name of a data set without a source is also one among all data of the specification
abbrev pub source_name : Trail → Json → ℕ × List ℕ → List Part
source_name trail tree m = if has_member (codes "source") tree then [] else given give.Source [] (place_of trail) (child trail m.0) m.1 ∷ []

-- the name of a data set in its object
abbrev pub data_name : Trail → ℕ × List ℕ → List Part
data_name trail m = given give.Data (scope_of trail) (place_of trail) (child trail m.0) m.1 ∷ []

-- the names of a data set
abbrev pub data_names : Trail → Json → List Part
data_names trail tree = option_map_or (λ (m : ℕ × List ℕ). data_name trail m ++ source_name trail tree m) (text_at (codes "name") tree) []

-- a transform in a group that has a facet or stands inside one is unsupported, also an empty list of them
abbrev pub transform_in_facet : Trail → Json → List Part
transform_in_facet trail tree = if is_faceted (object_round trail) then fault_member Unsupported (codes "transform") trail tree else []

-- a text begins with `://`
abbrev pub begins_far : List ℕ → Bool
begins_far (a ∷ b ∷ c ∷ rest) = a == 58 && b == 47 && c == 47
begins_far other = false

-- it stands somewhere in a text
abbrev pub is_far : List ℕ → Bool
is_far [] = false
is_far (b ∷ bytes) = begins_far (b ∷ bytes) || is_far bytes

-- a url of a far file is unsupported
abbrev pub far_url : Trail → Json → List Part
far_url trail tree = option_map_or (λ (m : ℕ × List ℕ). if is_far m.1 then part.Fault (child trail m.0) Unsupported ∷ [] else [])
    (text_at (codes "url") tree) []

-- the rules of a data set
abbrev pub data_faults : Trail → Json → List Part
data_faults trail tree = transform_in_facet trail tree ++ far_url trail tree

-- the data set itself
abbrev pub data_set : Trail → List Part
data_set trail = part.Data (place_of trail) ∷ []

-- what a data set gives
abbrev pub data_parts : Trail → Json → List Part
data_parts trail tree =
    data_set trail ++ data_names trail tree ++ used_member for_.Source (codes "source") trail tree ++ data_faults trail tree
