-- Trails: the steps from the top of a tree to a value.
use Rattle.std.specs.Prelude.{◌≡◌, ℕ, Option, Some, None, List, [], ◌∷◌, ◌++◌, codes, slice_get, unwrap_or, refl}
use Rattle.std.specs.Option.{option_map, option_and_then}
use Rattle.json_exact.specs.declared.json.Json.{Json, out-Json}
use Rattle.json_exact.specs.declared.json.Json.TheOpen as level
use Rattle.json_exact.specs.declared.json.Member.{Member}
use Rattle.json_exact.specs.Inside.{members_in}
use Rattle.spec_walk.specs.declared.places.Step.{Step}
use Rattle.spec_walk.specs.declared.places.Step.TheVariants.{Name, Number}
use Rattle.spec_schema.specs.Values.{Opened}
use Rattle.spec_walk.specs.Places.{place_at}

-- the steps from the top on
abbrev pub Trail : Type 0
Trail = List Step

-- one step further, to a member
abbrev pub to_member : Trail → List ℕ → Trail
to_member trail name = trail ++ Name name ∷ []

-- one step further, to an item
abbrev pub to_item : Trail → ℕ → Trail
to_item trail number = trail ++ Number number ∷ []

-- the place behind all values of a tree: no list and no object has so many children
abbrev pub behind_all : List ℕ
behind_all = 18446744073709551615 ∷ []

-- The place to which a trail leads. What leads nowhere stands behind all values: some part on the way there is absent or ill-formed, so that the table
-- of members finds a fault too, which stands before it.
abbrev pub place_of : Json → Trail → List ℕ
place_of tree trail = unwrap_or (place_at tree trail) behind_all

-- the child of a number: an item, or the value of a member
abbrev pub child_numbered : Opened → ℕ → Option Json
child_numbered (level.List items) number = slice_get items number
child_numbered (level.Object members) number = option_map (λ (m : Member). m.value) (slice_get members number)
child_numbered other number = None

-- the value at a place
abbrev pub value_under : Json → List ℕ → Option Json
value_under tree [] = Some tree
value_under tree (number ∷ place) = option_and_then (λ child. value_under child place) (child_numbered (out-Json tree) number)

-- the value to which a trail leads, none where it leads nowhere
abbrev pub value_at : Json → Trail → Option Json
value_at tree trail = option_and_then (value_under tree) (place_at tree trail)

-- the members of the object to which it leads, none where it leads to none
abbrev pub members_at : Json → Trail → Option (List Member)
members_at tree trail = option_and_then (λ (value : Json). members_in (out-Json value)) (value_at tree trail)

no_step_stays : (tree : Json) → value_at tree [] ≡ Some tree
no_step_stays tree = refl

nowhere_is_behind_all : (tree : Json) → place_at tree (Name (codes "a") ∷ []) ≡ None → place_of tree (Name (codes "a") ∷ []) ≡ behind_all
nowhere_is_behind_all tree none = rw none refl
