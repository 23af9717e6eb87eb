-- Which format a specification says it has.
use Rattle.std.specs.Prelude.{◌≡◌, refl, ℕ, Bool, true, false, ◌||◌, nat_eq, Option, List, [], ◌∷◌, codes}
use Rattle.std.specs.List.{starts_with}
use Rattle.std.specs.Option.{option_map_or}
use Rattle.std.specs.Str.{bytes_eq}
use Rattle.fixed_num.specs.Ranges.{◌>>=◌}
use Rattle.json_exact.specs.declared.json.Json.{Json, out-Json}
use Rattle.json_exact.specs.Inside.{text_in, members_in}
use Rattle.json_exact.specs.Path.{member_value}

-- whether a text has another in it
abbrev pub contains_text : List ℕ → List ℕ → Bool
contains_text part [] = bytes_eq part []
contains_text part (byte ∷ bytes) = starts_with nat_eq (byte ∷ bytes) part || contains_text part bytes

-- the text of the member `$schema`, if there is one
abbrev pub schema_text : Json → Option (List ℕ)
schema_text tree = do
  members ← members_in (out-Json tree)
  value ← member_value members (codes "$schema")
  text_in (out-Json value)

-- whether a tree says that it is a Vega specification
abbrev pub is_vega : Json → Bool
is_vega tree = option_map_or (contains_text (codes "/schema/vega/")) (schema_text tree) false

-- The rules at work.

vega_by_its_address : contains_text (codes "/schema/vega/") (codes "https://vega.github.io/schema/vega/v5.json") ≡ true
vega_by_its_address = refl

another_format : contains_text (codes "/schema/vega/") (codes "https://vega.github.io/schema/vega-lite/v5.json") ≡ false
another_format = refl
