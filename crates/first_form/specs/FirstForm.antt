-- The first chart form: which trees are of it, and what their parts are. None stands for what is not of the form.
use Rattle.std.specs.Prelude.{ℕ, ◌==◌, Bool, true, false, ◌&&◌, not, nat_le, ℤ, pos, neg_ℤ, ◌+◌, ◌*◌, ◌%◌, ◌^◌, Option, Some, None, List, []}
use Rattle.std.specs.Prelude.{◌∷◌, length, map, replicate, if◌then◌else◌, codes, ◌≡◌, refl}
use Rattle.std.specs.Option.{is_some, option_map, option_and_then}
use Rattle.std.specs.List.{list_all}
use Rattle.std.specs.Str.{bytes_eq}
use Rattle.fixed_num.specs.Number.{million}
use Rattle.json_exact.specs.declared.json.Json.{Json, Json-F, out-Json}
use Rattle.json_exact.specs.declared.json.Json.TheVariants as json
use Rattle.json_exact.specs.declared.json.Json.TheOpen as level
use Rattle.json_exact.specs.declared.json.Member.{Member}
use Rattle.json_exact.specs.Path.{member_value}
use Rattle.json_exact.specs.Inside.{text_in, number_in, items_in, members_in}
use Rattle.fixed_num.specs.Ranges.{◌>>=◌, all_found}
use Rattle.first_form.specs.declared.form.FirstForm.{FirstForm}
use Rattle.first_form.specs.declared.form.Value.{Value}

-- whether there is a member of each of these names
abbrev pub has_each : List Member → List (List ℕ) → Bool
has_each members names = list_all (λ name. is_some (member_value members name)) names

-- the members of an object that has one of each of these names and no others, in any order
abbrev pub object_of : List (List ℕ) → Json-F Json Member → Option (List Member)
object_of names tree = do
  members ← members_in tree
  if length members == length names && has_each members names then Some members else None

-- nothing, where a value is null
abbrev pub null_in : Json-F Json Member → Option (Unit {0})
null_in level.Null = Some tt
null_in other = None

-- what is in the value of the member of this name
abbrev pub found_at : {X : Type 0} → (Json-F Json Member → Option X) → List Member → List ℕ → Option X
found_at found_in members name = do
  tree ← member_value members name
  found_in (out-Json tree)

-- a whole number from 0 to 1,000,000,000
abbrev pub is_whole_amount : ℤ → Bool
is_whole_amount (pos m) = m % million == 0 && nat_le m (10 ^ 9 * million)
is_whole_amount other = false

-- the value of a row: a category and a whole amount, under these two fields
abbrev pub value_in : List ℕ → List ℕ → Json → Option Value
value_in x y row = do
  members ← object_of (x ∷ y ∷ []) (out-Json row)
  category ← found_at text_in members x
  amount ← found_at number_in members y
  if is_whole_amount amount then Some (record { category = category; amount = amount }) else None

-- a text without `\`; a field that is written with one, as an escape, is none of the form
abbrev pub is_plain : List ℕ → Bool
is_plain text = list_all (λ b. not (b == 92)) text

-- the field of the channel of this name, which is plain, of this type and without an axis
abbrev pub field_at : List Member → List ℕ → List ℕ → Option (List ℕ)
field_at encoding name kind = do
  channel ← found_at (object_of (codes "field" ∷ codes "type" ∷ codes "axis" ∷ [])) encoding name
  field ← found_at text_in channel (codes "field")
  its_kind ← found_at text_in channel (codes "type")
  no_axis ← found_at null_in channel (codes "axis")
  if bytes_eq its_kind kind && is_plain field then Some field else None

-- the fields of the two channels, which differ
abbrev pub fields_of : List Member → Option (List ℕ × List ℕ)
fields_of top = do
  encoding ← found_at (object_of (codes "x" ∷ codes "y" ∷ [])) top (codes "encoding")
  x ← field_at encoding (codes "x") (codes "nominal")
  y ← field_at encoding (codes "y") (codes "quantitative")
  if bytes_eq x y then None else Some (x, y)

-- the name of the list of rows, and the rows, which are at most 1000
abbrev pub data_in : List Member → Option (List ℕ × List Json)
data_in top = do
  source ← found_at (object_of (codes "name" ∷ codes "values" ∷ [])) top (codes "data")
  name ← found_at text_in source (codes "name")
  rows ← found_at items_in source (codes "values")
  if nat_le (length rows) 1000 then Some (name, rows) else None

-- the members of a specification whose mark is bars
abbrev pub bars_in : Json → Option (List Member)
bars_in tree = do
  top ← object_of (codes "data" ∷ codes "mark" ∷ codes "encoding" ∷ []) (out-Json tree)
  mark ← found_at text_in top (codes "mark")
  if bytes_eq mark (codes "bar") then Some top else None

-- the form of these parts
abbrev pub form_with : List ℕ → List ℕ → List ℕ → List Json → Option FirstForm
form_with name x y rows = do
  values ← all_found (map (value_in x y) rows)
  Some (record { name = name; x = x; y = y; values = values })

-- the chart of the first form that a tree specifies
abbrev pub form_of : Json → Option FirstForm
form_of tree = do
  top ← bars_in tree
  source ← data_in top
  fields ← fields_of top
  form_with source.0 fields.0 fields.1 source.1

-- the tree specifies this chart of the first form
abbrev pub IsFirstForm : Json → FirstForm → Type 0
IsFirstForm tree form = form_of tree ≡ Some form

-- The rules at work.

-- members of these two names
abbrev two : List ℕ → List ℕ → Json-F Json Member
two a b = level.Object (record { name = a; value = json.Null } ∷ record { name = b; value = json.Text (codes "B") } ∷ [])

in_any_order : option_map length (object_of (codes "b" ∷ codes "a" ∷ []) (two (codes "a") (codes "b"))) ≡ Some 2
in_any_order = refl

one_member_more : object_of (codes "a" ∷ []) (two (codes "a") (codes "b")) ≡ None
one_member_more = refl

one_name_twice : object_of (codes "a" ∷ codes "b" ∷ []) (two (codes "a") (codes "a")) ≡ None
one_name_twice = refl

a_text_is_found : option_and_then (λ members. found_at text_in members (codes "b")) (members_in (two (codes "a") (codes "b")))
    ≡ Some (codes "B")
unfolding out-Json denote.Hole.Carrier.out
a_text_is_found = refl

plain_fields : map is_plain (codes "a.b[0]" ∷ codes "a\\.b" ∷ codes "a\\b" ∷ []) ≡ true ∷ false ∷ false ∷ []
plain_fields = refl

whole_amounts : map is_whole_amount (pos 0 ∷ pos (28 * million) ∷ pos (10 ^ 9 * million) ∷ []) ≡ replicate 3 true
whole_amounts = refl

-- 28.5, 1,000,000,001 and -1
other_amounts : map is_whole_amount (pos 28500000 ∷ pos ((10 ^ 9 + 1) * million) ∷ neg_ℤ (pos million) ∷ []) ≡ replicate 3 false
other_amounts = refl
