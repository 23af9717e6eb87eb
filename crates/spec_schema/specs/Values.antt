-- What a value is, apart from what stands inside it. Each word speaks of a value opened by one level.
use Rattle.std.specs.Prelude.{◌≡◌, ℕ, ℤ, pos, negsuc, ◌%◌, ◌==◌, nat_le, unsigned_abs, Bool, true, false, ◌&&◌, List, [], ◌∷◌}
use Rattle.std.specs.Prelude.{length, codes, refl}
use Rattle.std.specs.List.{list_any}
use Rattle.std.specs.Str.{bytes_eq}
use Rattle.fixed_num.specs.Number.{million}
use Rattle.fixed_num.specs.Ranges.{is_within}
use Rattle.json_exact.specs.declared.json.Json.{Json, Json-F, out-Json}
use Rattle.json_exact.specs.declared.json.Json.TheOpen as level
use Rattle.json_exact.specs.declared.json.Member.{Member}

-- a value opened by one level
abbrev pub Opened : Type 0
Opened = Json-F Json Member

-- null
abbrev pub is_null : Opened → Bool
is_null level.Null = true
is_null other = false

-- a truth value
abbrev pub is_flag : Opened → Bool
is_flag (level.Flag b) = true
is_flag other = false

-- true alone
abbrev pub is_true : Opened → Bool
is_true (level.Flag b) = b
is_true other = false

-- a number of which a test holds
abbrev pub number_passes : (ℤ → Bool) → Opened → Bool
number_passes test (level.Number n) = test n
number_passes test other = false

-- a text of which a test holds
abbrev pub text_passes : (List ℕ → Bool) → Opened → Bool
text_passes test (level.Text t) = test t
text_passes test other = false

-- a list of which a test holds
abbrev pub list_passes : (List Json → Bool) → Opened → Bool
list_passes test (level.List items) = test items
list_passes test other = false

-- an object of which a test holds
abbrev pub object_passes : (List Member → Bool) → Opened → Bool
object_passes test (level.Object members) = test members
object_passes test other = false

-- a number in range
abbrev pub is_number : Opened → Bool
is_number = number_passes (λ n. true)

-- a number of millionths that is a whole number
abbrev pub is_whole : ℤ → Bool
is_whole n = unsigned_abs n % million == 0

-- a number of millionths that is a whole number from the least to the most
abbrev pub is_whole_between : ℤ → ℤ → ℤ → Bool
is_whole_between least most n = is_whole n && is_within least most n

-- a text
abbrev pub is_text : Opened → Bool
is_text = text_passes (λ t. true)

-- a text that is one of these
abbrev pub among : List (List ℕ) → List ℕ → Bool
among names text = list_any (λ name. bytes_eq name text) names

-- two numbers
abbrev pub is_pair : List Json → Bool
is_pair (low ∷ high ∷ []) = is_number (out-Json low) && is_number (out-Json high)
is_pair items = false

-- null, a truth value, a number in range, a text or two numbers in a list
abbrev pub is_cell : Opened → Bool
is_cell level.Null = true
is_cell (level.Flag b) = true
is_cell (level.Number n) = true
is_cell level.Huge = false
is_cell (level.Text t) = true
is_cell (level.List items) = is_pair items
is_cell (level.Object members) = false

-- a length from the least to the most
abbrev pub has_length : ℕ → ℕ → List Json → Bool
has_length least most items = nat_le least (length items) && nat_le (length items) most

half_is_not_whole : is_whole (pos 500000) ≡ false
half_is_not_whole = refl

minus_ninety_is_whole : is_whole (negsuc 89999999) ≡ true
minus_ninety_is_whole = refl

the_most_is_in : is_whole_between (pos 0) (pos 1000000) (pos 1000000) ≡ true
the_most_is_in = refl

one_past_the_most : is_whole_between (pos 0) (pos 1000000) (pos 2000000) ≡ false
one_past_the_most = refl

csv_is_among : among (codes "json" ∷ codes "csv" ∷ []) (codes "csv") ≡ true
csv_is_among = refl
