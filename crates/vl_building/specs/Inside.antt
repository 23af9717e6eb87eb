-- What a value gives, by what the values inside it give.
use Rattle.std.specs.Prelude.{ℕ, Option, Some, None, List, [], ◌∷◌, if◌then◌else◌}
use Rattle.std.specs.Option.{option_map}
use Rattle.std.specs.Str.{bytes_eq}
use Rattle.json_exact.specs.declared.json.Json.{Json, Null, Flag, Number, Huge, Text, List', Object', Row_of-Json, end_of-Json, more_of-Json, Row_of-Member}
use Rattle.json_exact.specs.declared.json.Json.{end_of-Member, more_of-Member}
use Rattle.json_exact.specs.declared.json.Member.{Member}
use Rattle.json_exact.specs.Path.{member_value}

-- what a value gives: by itself, by what the first member of a name gives, and by what each of its items gives
abbrev pub Giving : Type 0 → Type 0
Giving A = Json → (List ℕ → Option A) → List A → A

-- a value without members
abbrev pub no_members : {A : Type 0} → List ℕ → Option A
no_members name = None

abbrev mutual
  -- what a value gives
  pub given_by : {A : Type 0} → Giving A → Json → A
  given_by gives Null = gives Null no_members []
  given_by gives (Flag b) = gives (Flag b) no_members []
  given_by gives (Number n) = gives (Number n) no_members []
  given_by gives Huge = gives Huge no_members []
  given_by gives (Text t) = gives (Text t) no_members []
  given_by gives (List' size items) = gives (List' size items) no_members (given_by_items gives items)
  given_by gives (Object' size members) = gives (Object' size members) (given_by_member gives members) []

  -- what each item gives
  pub given_by_items : {A : Type 0} → Giving A → {n : _} → Row_of-Json n → List A
  given_by_items gives end_of-Json = []
  given_by_items gives (more_of-Json item others) = given_by gives item ∷ given_by_items gives others

  -- what the first member of a name gives
  pub given_by_member : {A : Type 0} → Giving A → {n : _} → Row_of-Member n → List ℕ → Option A
  given_by_member gives end_of-Member asked = None
  given_by_member gives (more_of-Member name value others) asked =
      if bytes_eq name asked then Some (given_by gives value) else given_by_member gives others asked

-- what the first member of a name gives, by what its value gives
abbrev pub member_gives : {A : Type 0} → (Json → A) → List Member → List ℕ → Option A
member_gives gives members name = option_map gives (member_value members name)
