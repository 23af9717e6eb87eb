-- The place in a tree to which names and numbers lead.
use Rattle.std.specs.Prelude.{◌≡◌, ℕ, Bool, Option, Some, None, List, [], ◌∷◌, find, slice_get, codes, refl}
use Rattle.std.specs.Option.{option_map, option_map_or}
use Rattle.std.specs.List.{enumerate_from}
use Rattle.std.specs.Str.{bytes_eq}
use Rattle.json_exact.specs.declared.json.Json.{Json, out-Json}
use Rattle.json_exact.specs.declared.json.Json.TheOpen as level
use Rattle.json_exact.specs.declared.json.Member.{Member}
use Rattle.spec_schema.specs.Values.{Opened}
use Rattle.spec_walk.specs.declared.places.Step.{Step}
use Rattle.spec_walk.specs.declared.places.Step.TheVariants.{Name, Number}

-- a child: its number among its parent's children, and itself
abbrev pub Child : Type 0
Child = ℕ × Json

-- a numbered member has this name
abbrev pub is_called : List ℕ → ℕ × Member → Bool
is_called name member = bytes_eq member.1.name name

-- the first member of this name
abbrev pub member_called : List Member → List ℕ → Option Child
member_called members name = option_map (λ (m : ℕ × Member). (m.0, m.1.value)) (find (is_called name) (enumerate_from 0 members))

-- the item of this number
abbrev pub item_numbered : List Json → ℕ → Option Child
item_numbered items number = option_map (λ (item : Json). (number, item)) (slice_get items number)

-- the member of this number
abbrev pub member_numbered : List Member → ℕ → Option Child
member_numbered members number = option_map (λ (m : Member). (number, m.value)) (slice_get members number)

-- the child to which a step leads: of an object the first member of the name, of an object or a list the child of the number
abbrev pub child_by : Opened → Step → Option Child
child_by (level.Object members) (Name name) = member_called members name
child_by (level.Object members) (Number number) = member_numbered members number
child_by (level.List items) (Number number) = item_numbered items number
child_by other step = None

-- the place to which steps lead from the top on, and none where a step leads nowhere
abbrev pub place_at : Json → List Step → Option (List ℕ)
place_at tree [] = Some []
place_at tree (step ∷ steps) =
    option_map_or (λ (c : Child). option_map (λ place. c.0 ∷ place) (place_at c.1 steps)) (child_by (out-Json tree) step) None

-- ---- worked examples

no_step_stays : (tree : Json) → place_at tree [] ≡ Some []
no_step_stays tree = refl

two : Json → List Member
two value = record { name = codes "mark"; value = value } ∷ record { name = codes "data"; value = value } ∷ []

a_name_leads_to_its_member : (value : Json) → child_by (level.Object (two value)) (Name (codes "data")) ≡ Some (1, value)
unfolding two
a_name_leads_to_its_member value = refl

a_number_leads_to_a_member_too : (value : Json) → child_by (level.Object (two value)) (Number 0) ≡ Some (0, value)
unfolding two
a_number_leads_to_a_member_too value = refl

no_such_name : (value : Json) → child_by (level.Object (two value)) (Name (codes "layer")) ≡ None
unfolding two
no_such_name value = refl

a_name_leads_nowhere_in_a_list : (value : Json) → child_by (level.List (value ∷ [])) (Name (codes "0")) ≡ None
a_name_leads_nowhere_in_a_list value = refl
