-- Texts and lists that go together.
use Rattle.std.specs.Prelude.{ℕ, ◌==◌, Bool, true, false, if◌then◌else◌, Option, Some, None, List, [], ◌∷◌, length, codes}
use Rattle.std.specs.Option.{option_map, option_map_or, option_and_then}
use Rattle.json_exact.specs.declared.json.Json.{Json, out-Json}
use Rattle.json_exact.specs.declared.json.Json.TheOpen as level
use Rattle.spec_schema.specs.declared.spec_error.SpecKind.TheVariants.{Wrong}
use Rattle.spec_schema.specs.Values.{Opened}
use Rattle.vega_parts.specs.declared.part.Part.{Part}
use Rattle.vega_parts.specs.declared.part.Part.TheVariants as part
use Rattle.vega_parts.specs.Members.{member_at, items_at}
use Rattle.vega_parts.specs.Trails.{Trail, child}

-- a list at this child has another length
abbrev pub unequal : Trail → ℕ → ℕ → ℕ → List Part
unequal trail number count other = if count == other then [] else part.Fault (child trail number) Wrong ∷ []

-- the lists of two members have other lengths: it is the first that is a fault
abbrev pub other_length : List ℕ → List ℕ → Trail → Json → List Part
other_length name other trail tree = option_map_or (λ (m : ℕ × List Json).
    option_map_or (λ (n : ℕ × List Json). unequal trail m.0 (length m.1) (length n.1)) (items_at other tree) []) (items_at name tree) []

-- a text goes with a text
abbrev pub goes_with_text : Opened → Bool
goes_with_text (level.List items) = false
goes_with_text other = true

-- and a list with a list of as many items
abbrev pub goes_with_list : ℕ → Opened → Bool
goes_with_list count (level.Text t) = false
goes_with_list count (level.List items) = count == length items
goes_with_list count other = true

-- two values go together; one of another form is no matter here
abbrev pub go_together : Opened → Opened → Bool
go_together (level.Text t) second = goes_with_text second
go_together (level.List items) second = goes_with_list (length items) second
go_together first second = true

-- a value at this child doesn't go with another
abbrev pub unlike : Trail → ℕ → Json → Json → List Part
unlike trail number value other = if go_together (out-Json other) (out-Json value) then [] else part.Fault (child trail number) Wrong ∷ []

-- two members don't go together: it is the first that is a fault
abbrev pub apart : List ℕ → List ℕ → Trail → Json → List Part
apart name other trail tree = option_map_or (λ (m : ℕ × Json).
    option_map_or (λ (n : ℕ × Json). unlike trail m.0 m.1 n.1) (member_at other tree) []) (member_at name tree) []

-- how many texts a value gives: a text counts as a list of one, and a value of another form is no matter here
abbrev pub text_count : Opened → Option ℕ
text_count (level.Text t) = Some 1
text_count (level.List items) = Some (length items)
text_count other = None

-- the same of a member, with its number
abbrev pub text_count_at : List ℕ → Json → Option (ℕ × ℕ)
text_count_at name tree =
    option_and_then (λ (m : ℕ × Json). option_map (λ count. (m.0, count)) (text_count (out-Json m.1))) (member_at name tree)

-- a sort has as many orders as fields: it is the order that is a fault
abbrev pub sort_parts : Trail → Json → List Part
sort_parts trail tree = option_map_or (λ (m : ℕ × ℕ).
    option_map_or (λ (n : ℕ × ℕ). unequal trail m.0 m.1 n.1) (text_count_at (codes "field") tree) []) (text_count_at (codes "order") tree) []
