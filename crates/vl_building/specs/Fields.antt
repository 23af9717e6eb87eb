-- The names of fields: a `\` before `.`, `[` or `]` is dropped, and the name is taken whole.
use Rattle.std.specs.Prelude.{◌≡◌, refl, ℕ, ◌==◌, Bool, false, ◌&&◌, ◌||◌, Option, List, [], ◌∷◌, codes, if◌then◌else◌}
use Rattle.std.specs.Option.{option_map, unwrap_or}
use Rattle.json_exact.specs.declared.json.Json.{Json}
use Rattle.json_exact.specs.declared.json.Member.{Member}
use Rattle.tree_readers.specs.Parts.{text_at, text_of, list_at}

-- the byte of `\`
abbrev pub BACKSLASH : ℕ
BACKSLASH = 92

-- a byte before which it is dropped: `.`, `[` or `]`
abbrev pub is_mark : ℕ → Bool
is_mark c = c == 46 || c == 91 || c == 93

-- a text that begins with one
abbrev pub begins_with_mark : List ℕ → Bool
begins_with_mark [] = false
begins_with_mark (c ∷ others) = is_mark c

-- the name of the field that a text says
abbrev pub field_name : List ℕ → List ℕ
field_name [] = []
field_name (c ∷ others) = if c == BACKSLASH && begins_with_mark others then field_name others else c ∷ field_name others

-- the field under a name
abbrev pub field_at : List Member → List ℕ → Option (List ℕ)
field_at members name = option_map field_name (text_at members name)

-- the field under a name, empty where there is none
abbrev pub needed_field : List Member → List ℕ → List ℕ
needed_field members name = unwrap_or (field_at members name) []

-- the field that an item says, empty where it says none
abbrev pub field_of : Json → List ℕ
field_of tree = field_name (text_of tree)

-- the fields of a list under a name
abbrev pub fields_at : List Member → List ℕ → Option (List (List ℕ))
fields_at = list_at field_of

-- the fields of a list under a name, none where there is no list
abbrev pub needed_fields : List Member → List ℕ → List (List ℕ)
needed_fields members name = unwrap_or (fields_at members name) []

-- The rules at work.

a_dot_alone : field_name (codes "a.b") ≡ codes "a.b"
a_dot_alone = refl

a_backslash_before_a_dot : field_name (codes "a\\.b") ≡ codes "a.b"
a_backslash_before_a_dot = refl

brackets_too : field_name (codes "a\\[0\\]") ≡ codes "a[0]"
brackets_too = refl

any_other_stays : field_name (codes "a\\b\\") ≡ codes "a\\b\\"
any_other_stays = refl

the_first_of_two_stays : field_name (codes "a\\\\.b") ≡ codes "a\\.b"
the_first_of_two_stays = refl
