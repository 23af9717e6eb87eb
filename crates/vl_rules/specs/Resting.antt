-- Where the fault of a selection stands. Whether a selection is right rests on itself, on the encodings, marks and facets of the units that it concerns, on
-- the scales that these share, and on the names of views. So where the first fault of the form, by the table of members or of a text, is such that
-- something of this may count as absent, the fault stands there.
use Rattle.std.specs.Prelude.{◌≡◌, refl, ℕ, ◌==◌, Bool, true, false, not, ◌||◌, ◌&&◌, Option, None, List, [], ◌∷◌, codes, map, slice_get, if◌then◌else◌}
use Rattle.std.specs.Option.{option_map, option_map_or}
use Rattle.std.specs.Str.{bytes_eq}
use Rattle.json_exact.specs.declared.json.Json.{Json, out-Json}
use Rattle.json_exact.specs.declared.json.Json.TheOpen as level
use Rattle.json_exact.specs.declared.json.Member.{Member}
use Rattle.spec_schema.specs.declared.spec_error.SpecKind.{SpecKind}
use Rattle.spec_schema.specs.declared.spec_error.SpecKind.TheVariants.{Unsupported, Missing, Wrong}
use Rattle.spec_schema.specs.Values.{Opened}
use Rattle.spec_schema.specs.declared.fault.Fault.{Fault}
use Rattle.spec_walk.specs.declared.places.Step.TheVariants.{Number}
use Rattle.vl_trails.specs.Trails.{Trail, place_of, to_member}

-- a member of a view or of a channel on which no selection rests, nor on what is in it, but for a selection on itself
abbrev pub is_aside : List ℕ → Bool
is_aside name =
    bytes_eq name (codes "params") || bytes_eq name (codes "data") || bytes_eq name (codes "datasets") || bytes_eq name (codes "transform")
    || bytes_eq name (codes "config") || bytes_eq name (codes "padding") || bytes_eq name (codes "autosize") || bytes_eq name (codes "width")
    || bytes_eq name (codes "height") || bytes_eq name (codes "title") || bytes_eq name (codes "axis") || bytes_eq name (codes "legend")
    || bytes_eq name (codes "header") || bytes_eq name (codes "format") || bytes_eq name (codes "stack")

-- the child of this number with its name; an item has none
abbrev pub item_at : List Json → ℕ → Option (List ℕ × Json)
item_at items number = option_map (λ (item : Json). ([], item)) (slice_get items number)

abbrev pub member_at : List Member → ℕ → Option (List ℕ × Json)
member_at members number = option_map (λ (m : Member). (m.name, m.value)) (slice_get members number)

abbrev pub named_child : Opened → ℕ → Option (List ℕ × Json)
named_child (level.List items) number = item_at items number
named_child (level.Object members) number = member_at members number
named_child other number = None

-- whether a place lies in such a member
abbrev pub lies_aside : Json → List ℕ → Bool
lies_aside tree [] = false
lies_aside tree (number ∷ place) =
    option_map_or (λ (c : List ℕ × Json). is_aside c.0 || lies_aside c.1 place) (named_child (out-Json tree) number) false

-- whether a place is another, or lies in what stands there
abbrev pub lies_in : List ℕ → List ℕ → Bool
lies_in [] place = true
lies_in (m ∷ ms) [] = false
lies_in (m ∷ ms) (n ∷ ns) = m == n && lies_in ms ns

-- whether a place lies in what the parameter at a trail says of its selection
abbrev pub lies_in_own : Json → Trail → List ℕ → Bool
lies_in_own tree trail place =
    lies_in (place_of tree (to_member trail (codes "select"))) place || lies_in (place_of tree (to_member trail (codes "views"))) place

-- an unsupported member takes nothing away
abbrev pub is_more : SpecKind → Bool
is_more Unsupported = true
is_more Missing = false
is_more Wrong = false

-- whether something on which the selection of the parameter at a trail rests may be absent by a fault
abbrev pub takes_away : Json → Fault → Trail → Bool
takes_away tree fault trail = not (is_more fault.kind) && (lies_in_own tree trail fault.place || not (lies_aside tree fault.place))

-- by numbers to a place
abbrev pub place_steps : List ℕ → Trail
place_steps place = map Number place

-- where the selection of the parameter at a trail is wrong: at its `select`, or where that fault stands
abbrev pub select_by : Json → Fault → Trail → Trail
select_by tree fault trail = if takes_away tree fault trail then place_steps fault.place else to_member trail (codes "select")

-- the same by the first fault of the form, if there is one
abbrev pub select_at : Json → Option Fault → Trail → Trail
select_at tree first trail = option_map_or (λ (f : Fault). select_by tree f trail) first (to_member trail (codes "select"))

-- ---- worked examples

without_a_fault_it_stands_at_itself : (tree : Json) → select_at tree None [] ≡ to_member [] (codes "select")
without_a_fault_it_stands_at_itself tree = refl

channels_count : (is_aside (codes "encoding") ≡ false) × (is_aside (codes "x") ≡ false) × (is_aside (codes "scale") ≡ false)
channels_count = (refl, refl, refl)

rows_do_not : (is_aside (codes "data") ≡ true) × (is_aside (codes "transform") ≡ true)
rows_do_not = (refl, refl)

inside_and_beside : (lies_in (1 ∷ []) (1 ∷ 2 ∷ []) ≡ true) × (lies_in (1 ∷ []) (1 ∷ []) ≡ true) × (lies_in (1 ∷ []) (2 ∷ []) ≡ false)
inside_and_beside = (refl, refl, refl)
