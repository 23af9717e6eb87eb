-- What a text of the first chart form says beside the form: the order of its channels, and how its values are written.
use Rattle.std.specs.Prelude.{◌≡◌, refl, ℕ, Bool, true, false, Option, List, [], ◌∷◌, codes}
use Rattle.std.specs.Str.{bytes_eq}
use Rattle.json_exact.specs.declared.json.Json.{Json}
use Rattle.json_exact.specs.declared.json.Member.{Member}
use Rattle.json_exact.specs.Path.{member_value}
use Rattle.tree_readers.specs.Parts.{members_of, needed_members}

-- the first of some members has this name
abbrev pub begins_with : List ℕ → List Member → Bool
begins_with name [] = false
begins_with name (m ∷ others) = bytes_eq m.name name

-- the channel y stands first
abbrev pub y_stands_first : Json → Bool
y_stands_first tree = begins_with (codes "y") (needed_members (members_of tree) (codes "encoding"))

-- the values as they are written
abbrev pub values_written : Json → Option Json
values_written tree = member_value (needed_members (members_of tree) (codes "data")) (codes "values")

-- The rules at work.

-- the channels of these two names
two_channels : Json → List ℕ → List ℕ → List Member
two_channels channel a b = record { name = a; value = channel } ∷ record { name = b; value = channel } ∷ []

x_first : (channel : Json) → begins_with (codes "y") (two_channels channel (codes "x") (codes "y")) ≡ false
unfolding two_channels
x_first channel = refl

y_first : (channel : Json) → begins_with (codes "y") (two_channels channel (codes "y") (codes "x")) ≡ true
unfolding two_channels
y_first channel = refl
