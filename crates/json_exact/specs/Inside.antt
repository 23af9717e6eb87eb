-- What is in a value.
use Rattle.std.specs.Prelude.{ℕ, ℤ, Option, Some, None, List}
use Rattle.json_exact.specs.declared.json.Json.{Json, Json-F}
use Rattle.json_exact.specs.declared.json.Json.TheOpen as level
use Rattle.json_exact.specs.declared.json.Member.{Member}

-- the text in a value
abbrev pub text_in : Json-F Json Member → Option (List ℕ)
text_in (level.Text text) = Some text
text_in other = None

-- the number in a value
abbrev pub number_in : Json-F Json Member → Option ℤ
number_in (level.Number n) = Some n
number_in other = None

-- the items of a list
abbrev pub items_in : Json-F Json Member → Option (List Json)
items_in (level.List items) = Some items
items_in other = None

-- the members of an object
abbrev pub members_in : Json-F Json Member → Option (List Member)
members_in (level.Object members) = Some members
members_in other = None
