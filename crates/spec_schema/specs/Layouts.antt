-- Which members an object may have.
use Rattle.std.specs.Prelude.{◌≡◌, ℕ, ◌==◌, Bool, true, false, ◌&&◌, not, Option, List, [], ◌∷◌, find, slice_get, codes, refl}
use Rattle.std.specs.Option.{option_map, option_map_or, option_or}
use Rattle.std.specs.List.{list_any, list_all}
use Rattle.std.specs.Str.{bytes_eq}
use Rattle.json_exact.specs.declared.json.Json.{Json, out-Json}
use Rattle.json_exact.specs.declared.json.Member.{Member}
use Rattle.spec_schema.specs.declared.layout.Rule.{Rule}
use Rattle.spec_schema.specs.declared.layout.Layout.{Layout}
use Rattle.spec_schema.specs.declared.layout.Test.{Test}
use Rattle.spec_schema.specs.declared.layout.Test.TheVariants.{Has, Lacks, Says, Any, Leads, Alone, Beyond}
use Rattle.spec_schema.specs.declared.schema.Schema.{Schema}
use Rattle.spec_schema.specs.Values.{text_passes, among}

-- there is a member of this name
abbrev pub has_name : List Member → List ℕ → Bool
has_name members name = list_any (λ (m : Member). bytes_eq m.name name) members

-- a member has this name, and its value is this text
abbrev pub says : List ℕ → List ℕ → Member → Bool
says name text m = bytes_eq m.name name && text_passes (bytes_eq text) (out-Json m.value)

-- the names of a list, by its code
abbrev pub names_of : Schema → ℕ → List (List ℕ)
names_of schema code = option_map_or (λ names. names) (slice_get schema.names code) []

-- a member has one of these names
abbrev pub is_one_of : List (List ℕ) → Member → Bool
is_one_of names m = among names m.name

-- of the members that have one of these names, the first has this name
abbrev pub leads : List (List ℕ) → List ℕ → List Member → Bool
leads names name members = option_map_or (λ (m : Member). bytes_eq m.name name) (find (is_one_of names) members) false

-- a member has one of these names, and not this name
abbrev pub is_other : List (List ℕ) → List ℕ → Member → Bool
is_other names name m = is_one_of names m && not (bytes_eq m.name name)

-- there is a member of this name, and none that has another of these names
abbrev pub stands_alone : List (List ℕ) → List ℕ → List Member → Bool
stands_alone names name members = has_name members name && not (list_any (is_other names name) members)

-- a test holds of the members
abbrev pub holds : Schema → List Member → Test → Bool
holds schema members (Has name) = has_name members name
holds schema members (Lacks name) = not (has_name members name)
holds schema members (Says name text) = list_any (says name text) members
holds schema members (Any names) = list_any (is_one_of (names_of schema names)) members
holds schema members (Leads names name) = leads (names_of schema names) name members
holds schema members (Alone names name) = stands_alone (names_of schema names) name members
holds schema members (Beyond names) = list_any (λ m. not (is_one_of (names_of schema names) m)) members

-- a layout is one of this object, and all its tests hold of the members
abbrev pub applies : Schema → ℕ → List Member → Layout → Bool
applies schema object members layout = layout.object == object && list_all (holds schema members) layout.when

-- the first layout of the object that applies to the members
abbrev pub layout_in : Schema → ℕ → List Member → Option Layout
layout_in schema object members = find (applies schema object members) schema.layouts

-- the rule of this name
abbrev pub rule_in : List Rule → List ℕ → Option Rule
rule_in rules name = find (λ (r : Rule). bytes_eq r.name name) rules

-- the shape of the value of a member of this name, and none where there may be no such member
abbrev pub shape_in : Layout → List ℕ → Option ℕ
shape_in layout name = option_or (option_map (λ (r : Rule). r.shape) (rule_in layout.rules name)) layout.others

-- ---- worked examples

-- members of these names, with any values
named : Json → List (List ℕ) → List Member
named value [] = []
named value (name ∷ names) = record { name = name; value = value } ∷ named value names

the_first_decides : (value : Json) → leads (codes "mark" ∷ codes "layer" ∷ []) (codes "layer")
    (named value (codes "title" ∷ codes "layer" ∷ codes "mark" ∷ [])) ≡ true
unfolding named
the_first_decides value = refl

a_later_one_does_not : (value : Json) → leads (codes "mark" ∷ codes "layer" ∷ []) (codes "mark")
    (named value (codes "title" ∷ codes "layer" ∷ codes "mark" ∷ [])) ≡ false
unfolding named
a_later_one_does_not value = refl

none_decides : (value : Json) → leads (codes "mark" ∷ codes "layer" ∷ []) (codes "mark") (named value (codes "title" ∷ [])) ≡ false
unfolding named
none_decides value = refl

one_alone : (value : Json) → stands_alone (codes "value" ∷ codes "expr" ∷ []) (codes "expr")
    (named value (codes "name" ∷ codes "expr" ∷ [])) ≡ true
unfolding named
one_alone value = refl

two_of_them : (value : Json) → stands_alone (codes "value" ∷ codes "expr" ∷ []) (codes "expr")
    (named value (codes "value" ∷ codes "expr" ∷ [])) ≡ false
unfolding named
two_of_them value = refl
