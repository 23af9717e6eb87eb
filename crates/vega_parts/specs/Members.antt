-- The members of an object by their names, each with its number.
use Rattle.std.specs.Prelude.{ℕ, Bool, false, Option, List, find}
use Rattle.std.specs.Option.{option_map, option_map_or, option_and_then, is_some}
use Rattle.std.specs.List.{enumerate_from}
use Rattle.std.specs.Str.{bytes_eq}
use Rattle.json_exact.specs.declared.json.Json.{Json, out-Json}
use Rattle.json_exact.specs.declared.json.Member.{Member}
use Rattle.json_exact.specs.Inside.{text_in, items_in}
use Rattle.spec_schema.specs.Faults.{members_of}
use Rattle.spec_schema.specs.Values.{text_passes}

-- the first of some members that has this name, with its number
abbrev pub named : List ℕ → List Member → Option (ℕ × Json)
named name members =
    option_map (λ (m : ℕ × Member). (m.0, m.1.value)) (find (λ (m : ℕ × Member). bytes_eq m.1.name name) (enumerate_from 0 members))

-- the first member of this name with its number, where the value is an object that has one
abbrev pub member_at : List ℕ → Json → Option (ℕ × Json)
member_at name tree = named name (members_of (out-Json tree))

-- there is one
abbrev pub has_member : List ℕ → Json → Bool
has_member name tree = is_some (member_at name tree)

-- its text, where it is one
abbrev pub text_at : List ℕ → Json → Option (ℕ × List ℕ)
text_at name tree = option_and_then (λ (m : ℕ × Json). option_map (λ text. (m.0, text)) (text_in (out-Json m.1))) (member_at name tree)

-- its items, where it is a list
abbrev pub items_at : List ℕ → Json → Option (ℕ × List Json)
items_at name tree = option_and_then (λ (m : ℕ × Json). option_map (λ items. (m.0, items)) (items_in (out-Json m.1))) (member_at name tree)

-- it says this text
abbrev pub says_text : List ℕ → List ℕ → Json → Bool
says_text name text tree = option_map_or (λ (m : ℕ × Json). text_passes (bytes_eq text) (out-Json m.1)) (member_at name tree) false
