-- The path of a place in a tree: JSON Pointer (RFC 6901).
use Rattle.std.specs.Prelude.{◌≡◌, ℕ, Option, Some, None, List, [], ◌∷◌, ◌++◌, slice_get, codes, refl}
use Rattle.std.specs.Option.{option_map, option_map_or}
use Rattle.std.specs.Fmt.{decimal}
use Rattle.json_exact.specs.declared.json.Json.{Json, out-Json}
use Rattle.json_exact.specs.declared.json.Json.TheOpen as level
use Rattle.json_exact.specs.declared.json.Member.{Member}
use Rattle.spec_schema.specs.Values.{Opened}
use Rattle.spec_schema.specs.Faults.{path_word}

-- the item of this number, with the word to it in a path
abbrev pub item_with_word : List Json → ℕ → Option (List ℕ × Json)
item_with_word items number = option_map (λ (item : Json). (path_word (decimal number), item)) (slice_get items number)

-- the member of this number, with the word to it
abbrev pub member_with_word : List Member → ℕ → Option (List ℕ × Json)
member_with_word members number = option_map (λ (m : Member). (path_word m.name, m.value)) (slice_get members number)

-- the child of this number: an item by its number, a member by its name
abbrev pub child_at : Opened → ℕ → Option (List ℕ × Json)
child_at (level.List items) number = item_with_word items number
child_at (level.Object members) number = member_with_word members number
child_at other number = None

-- the path of a place, word by word from the top on; it ends where nothing stands
abbrev pub path_of : Json → List ℕ → List ℕ
path_of tree [] = []
path_of tree (number ∷ place) = option_map_or (λ (c : List ℕ × Json). c.0 ++ path_of c.1 place) (child_at (out-Json tree) number) []

the_top : (tree : Json) → path_of tree [] ≡ []
the_top tree = refl

a_member_with_a_slash : (value : Json) → member_with_word (record { name = codes "a/b"; value = value } ∷ []) 0
    ≡ Some (codes "/a~1b", value)
a_member_with_a_slash value = refl
