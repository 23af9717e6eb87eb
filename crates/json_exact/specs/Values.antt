-- The values that a JSON text lists, one after the other.
use Rattle.std.specs.Prelude.{◌≡◌, refl, ◌<◌, ℕ, true, List, [], ◌∷◌, Result, Ok, Err, Option, Some, None}
use Rattle.fixed_num.specs.Steps.{◌>>=◌}
use Rattle.json_exact.specs.declared.error.JsonError.{JsonError}
use Rattle.json_exact.specs.declared.error.JsonError.TheVariants as errors
use Rattle.json_exact.specs.declared.json.Json.{Json, Json-F, out-Json}
use Rattle.json_exact.specs.declared.json.Json.TheOpen as level
use Rattle.json_exact.specs.declared.json.Json.TheVariants as json
use Rattle.json_exact.specs.declared.json.Member.{Member}
use Rattle.json_exact.specs.declared.value_reader.ValueReader.{ValueReader}
use Rattle.json_exact.specs.Reading.{Reads, FaultsAt}
use Rattle.json_exact.specs.inner.Ahead.{placed, left_ahead}

-- the values that a tree lists: the items of a list; any other value counts as a list of itself
abbrev pub values_in : Json → Json-F Json Member → List Json
values_in tree (level.List items) = items
values_in tree other = tree ∷ []

abbrev pub values_of : Json → List Json
values_of tree = values_in tree (out-Json tree)

-- What comes of the bytes is right: the values of the tree that they spell, or the place of their fault where they spell none.
abbrev pub AreValuesOf : List ℕ → Result (List Json) ℕ → Type 0
AreValuesOf bytes (Ok values) = (tree : Json) × Reads bytes tree × (values_of tree ≡ values)
AreValuesOf bytes (Err place) = ((tree : Json) → Reads bytes tree → ⊥) × FaultsAt bytes place

-- The values that are still to come of a reader, or the place of a fault that comes before their end. What a reader begins with and
-- how it goes on, from call to call, is all that there is to know of it: `AnswersAreTheValues` says that its answers are then right,
-- and of these it speaks by `Reads` and `FaultsAt` alone.
abbrev pub ahead : ValueReader → Result (List Json) ℕ
ahead reader = placed reader.size (left_ahead reader.stage reader.most reader.rest.now)

-- how many values may still come at most
abbrev pub most_ahead : ValueReader → ℕ
most_ahead reader = reader.most

-- What a reader answers is what is ahead: its next value and the reader of the others, or none at the end, or the fault where one
-- comes first. Nothing is said where memory was refused.
abbrev pub IsNext : Result (List Json) ℕ → Result (Option (Json × ValueReader)) JsonError → Type 0
IsNext given (Ok (Some (value, others))) = given ≡ (ahead others >>= λ values. Ok (value ∷ values))
IsNext given (Ok None) = given ≡ Ok []
IsNext given (Err (errors.Fault place)) = given ≡ Err place
IsNext given (Err errors.Memory) = Unit {0}

-- fewer values are ahead of the others
abbrev pub IsFewer : ℕ → Option (Json × ValueReader) → Type 0
IsFewer most (Some (value, others)) = most_ahead others < most
IsFewer most None = Unit {0}

-- From call to call a reader answers these values, and then that there are no more, or a fault at a place.
abbrev pub Answers : ValueReader → List Json → Option ℕ → Type 0
Answers reader [] None = IsNext (ahead reader) (Ok None)
Answers reader [] (Some place) = IsNext (ahead reader) (Err (errors.Fault place))
Answers reader (value ∷ values) end = (others : ValueReader) × IsNext (ahead reader) (Ok (Some (value, others))) × Answers others values end

-- what such answers come to
abbrev pub come_to : List Json → Option ℕ → Result (List Json) ℕ
come_to values None = Ok values
come_to values (Some place) = Err place

-- All that a reader of the bytes answers is right: its values are those of the tree that the bytes spell, where no fault ends them, and
-- a fault says where the bytes spell none.
abbrev pub AnswersAreTheValues : Type 0
AnswersAreTheValues = (bytes : List ℕ) (reader : ValueReader) (values : List Json) (end : Option ℕ)
    → AreValuesOf bytes (ahead reader) → Answers reader values end → AreValuesOf bytes (come_to values end)

-- The rules at work.

a_list_gives_its_items : values_of (json.List (json.Null ∷ json.List [] ∷ [])) ≡ json.Null ∷ json.List [] ∷ []
unfolding out-Json denote.Hole.Carrier.out Rattle.json_exact.specs.declared.json.Json.TheBlock.shown-the_row-Json-0
    denote.Hole.Carrier.shown denote.Hole.Carrier.hidden
a_list_gives_its_items = refl

any_other_value_is_one : values_of (json.Flag true) ≡ json.Flag true ∷ []
unfolding out-Json denote.Hole.Carrier.out
any_other_value_is_one = refl
