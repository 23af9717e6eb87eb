-- The texts and the amounts of a chart of the first form that was read.
use Rattle.std.proofs.Common.{◌≡◌, ℕ, ℤ, ◌==◌, ◌&&◌, Bool, true, false, Option, Some, None, List, [], ◌∷◌, length, map, codes, nat_le}
use Rattle.std.proofs.Common.{refl, subst}
use Rattle.std.specs.Prelude.{if◌then◌else◌, bytes_eq}
use Rattle.std.specs.List.{AllByRecursion}
use Rattle.std.specs.Str.{IsUtf8}
use Rattle.fixed_num.specs.Number.{IsNumber}
use Rattle.fixed_num.specs.Ranges.{◌>>=◌, all_found}
use Rattle.json_exact.specs.declared.json.Json.{Json, Json-F, out-Json, Null, Flag, Number, Huge, Text, List', Object'}
use Rattle.json_exact.specs.declared.json.Member.{Member}
use Rattle.json_exact.specs.Inside.{text_in, number_in, items_in, members_in}
use Rattle.json_exact.specs.Path.{member_value}
use Rattle.first_form.specs.declared.form.FirstForm.{FirstForm}
use Rattle.first_form.specs.declared.form.Value.{Value}
use Rattle.first_form.specs.FirstForm.{has_each, object_of, null_in, found_at, is_whole_amount, value_in, is_plain, field_at, fields_of, data_in}
use Rattle.first_form.specs.FirstForm.{bars_in, form_of}
use Rattle.compiled_bars.proofs.ReadTexts.{IsSound, EachItem, EachMember, value_at_sound, text_in_sound, members_in_sound, items_in_sound}

-- what is there comes of what is there
bind_some : {A B : Type 0} (o : Option A) (f : A → Option B) (y : B) → (o >>= f) ≡ Some y → (x : A) × (o ≡ Some x) × (f x ≡ Some y)
bind_some None f y h = cc
bind_some (Some x) f y h = (x, refl, h)

-- what is kept
kept : {A : Type 0} (b : Bool) (x y : A) → (if b then Some x else None) ≡ Some y → x ≡ y
kept true x y h = cc
kept false x y h = cc

unless_kept : {A : Type 0} (b : Bool) (x y : A) → (if b then None else Some x) ≡ Some y → x ≡ y
unless_kept true x y h = cc
unless_kept false x y h = cc

-- the number that a tree is
number_in_sound : (tree : Json) (n : ℤ) → IsSound tree → number_in (out-Json tree) ≡ Some n → IsNumber n
unfolding out-Json denote.Hole.Carrier.out
number_in_sound Null n s e = absurd (cc)
number_in_sound (Flag b) n s e = absurd (cc)
number_in_sound (Number own) n s e = let same : own ≡ n = cc in subst IsNumber same s
number_in_sound Huge n s e = absurd (cc)
number_in_sound (Text t) n s e = absurd (cc)
number_in_sound (List' size items) n s e = absurd (cc)
number_in_sound (Object' size members) n s e = absurd (cc)

-- what is in a value that was read, where it is found in the member of a name
found_sound : {X : Type 0} (found_in : Json-F Json Member → Option X) (P : X → Type 0)
    → ((tree : Json) (x : X) → IsSound tree → found_in (out-Json tree) ≡ Some x → P x)
    → (members : List Member) (name : List ℕ) (x : X) → EachMember members → found_at found_in members name ≡ Some x → P x
found_sound found_in P sound members name x each is =
    let (tree, value, rest) = bind_some (member_value members name) _ x is in
    sound tree x (value_at_sound members name tree each value) rest

-- the members of an object
object_sound : (names : List (List ℕ)) (tree : Json) (members : List Member) → IsSound tree → object_of names (out-Json tree) ≡ Some members
    → EachMember members
object_sound names tree members s is =
    let (own, inside, rest) = bind_some (members_in (out-Json tree)) _ members is in
    subst EachMember (kept (length own == length names && has_each own names) own members rest) (members_in_sound tree own s inside)

-- the text, the object and the list under a name
text_sound : (members : List Member) (name text : List ℕ) → EachMember members → found_at text_in members name ≡ Some text → IsUtf8 text
text_sound = found_sound text_in IsUtf8 text_in_sound

members_sound : (names : List (List ℕ)) (members : List Member) (name : List ℕ) (inside : List Member) → EachMember members
    → found_at (object_of names) members name ≡ Some inside → EachMember inside
members_sound names = found_sound (object_of names) EachMember (object_sound names)

rows_sound : (members : List Member) (name : List ℕ) (rows : List Json) → EachMember members → found_at items_in members name ≡ Some rows
    → EachItem rows
rows_sound = found_sound items_in EachItem items_in_sound

-- the category of a value is UTF-8, and its amount is in range
abbrev pub IsSoundValue : Value → Type 0
IsSoundValue value = IsUtf8 value.category × IsNumber value.amount

value_sound : (x y : List ℕ) (row : Json) (value : Value) → IsSound row → value_in x y row ≡ Some value → IsSoundValue value
value_sound x y row value s is =
    let (members, object, rest) = bind_some (object_of (x ∷ y ∷ []) (out-Json row)) _ value is in
    let (category, text, rest) = bind_some (found_at text_in members x) _ value rest in
    let (amount, number, rest) = bind_some (found_at number_in members y) _ value rest in
    let each = object_sound (x ∷ y ∷ []) row members s object in
    let same = kept (is_whole_amount amount) (record { category = category; amount = amount }) value rest in
    let own : IsNumber amount = found_sound number_in IsNumber number_in_sound members y amount each number in
    subst IsSoundValue same (text_sound members x category each text, own)

values_sound : (x y : List ℕ) (rows : List Json) (values : List Value) → EachItem rows → all_found (map (value_in x y) rows) ≡ Some values
    → AllByRecursion IsSoundValue values
values_sound x y [] [] each are = tt
values_sound x y [] (v ∷ vs) each are = absurd cc
values_sound x y (row ∷ rows) values each are =
    let (v, is, rest) = bind_some (value_in x y row) _ values are in
    let (vs, others, same) = bind_some (all_found (map (value_in x y) rows)) _ values rest in
    let same : v ∷ vs ≡ values = cc in
    subst (AllByRecursion IsSoundValue) same (value_sound x y row v each.0 is, values_sound x y rows vs each.1 others)

field_sound : (encoding : List Member) (name kind field : List ℕ) → EachMember encoding → field_at encoding name kind ≡ Some field
    → IsUtf8 field
field_sound encoding name kind field each is =
    let names = codes "field" ∷ codes "type" ∷ codes "axis" ∷ [] in
    let (channel, object, rest) = bind_some (found_at (object_of names) encoding name) _ field is in
    let (own, text, rest) = bind_some (found_at text_in channel (codes "field")) _ field rest in
    let (its_kind, said, rest) = bind_some (found_at text_in channel (codes "type")) _ field rest in
    let (none, null, rest) = bind_some (found_at null_in channel (codes "axis")) _ field rest in
    let inside = members_sound names encoding name channel each object in
    subst IsUtf8 (kept (bytes_eq its_kind kind && is_plain own) own field rest) (text_sound channel (codes "field") own inside text)

fields_sound : (top : List Member) (fields : List ℕ × List ℕ) → EachMember top → fields_of top ≡ Some fields
    → IsUtf8 fields.0 × IsUtf8 fields.1
fields_sound top fields each is =
    let names = codes "x" ∷ codes "y" ∷ [] in
    let (encoding, object, rest) = bind_some (found_at (object_of names) top (codes "encoding")) _ fields is in
    let (x, nominal, rest) = bind_some (field_at encoding (codes "x") (codes "nominal")) _ fields rest in
    let (y, quantitative, rest) = bind_some (field_at encoding (codes "y") (codes "quantitative")) _ fields rest in
    let inside = members_sound names top (codes "encoding") encoding each object in
    subst (λ (pair : List ℕ × List ℕ). IsUtf8 pair.0 × IsUtf8 pair.1) (unless_kept (bytes_eq x y) (x, y) fields rest) (
      field_sound encoding (codes "x") (codes "nominal") x inside nominal,
      field_sound encoding (codes "y") (codes "quantitative") y inside quantitative,
    )

data_sound : (top : List Member) (found : List ℕ × List Json) → EachMember top → data_in top ≡ Some found
    → IsUtf8 found.0 × EachItem found.1
data_sound top found each is =
    let names = codes "name" ∷ codes "values" ∷ [] in
    let (source, object, rest) = bind_some (found_at (object_of names) top (codes "data")) _ found is in
    let (name, text, rest) = bind_some (found_at text_in source (codes "name")) _ found rest in
    let (rows, list, rest) = bind_some (found_at items_in source (codes "values")) _ found rest in
    let inside = members_sound names top (codes "data") source each object in
    subst (λ (pair : List ℕ × List Json). IsUtf8 pair.0 × EachItem pair.1) (kept (nat_le (length rows) 1000) (name, rows) found rest)
    (text_sound source (codes "name") name inside text, rows_sound source (codes "values") rows inside list)

bars_sound : (tree : Json) (top : List Member) → IsSound tree → bars_in tree ≡ Some top → EachMember top
bars_sound tree top s is =
    let names = codes "data" ∷ codes "mark" ∷ codes "encoding" ∷ [] in
    let (own, object, rest) = bind_some (object_of names (out-Json tree)) _ top is in
    let (mark, text, rest) = bind_some (found_at text_in own (codes "mark")) _ top rest in
    subst EachMember (kept (bytes_eq mark (codes "bar")) own top rest) (object_sound names tree own s object)

-- its name and its fields are UTF-8, and so are the categories of its values, whose amounts are in range
pub record IsSoundForm (form : FirstForm) : Type 0 where
  pub name : IsUtf8 form.name
  pub x : IsUtf8 form.x
  pub y : IsUtf8 form.y
  pub values : AllByRecursion IsSoundValue form.values

-- a form that was read of a tree that was read is so
pub form_sound : (tree : Json) (form : FirstForm) → IsSound tree → form_of tree ≡ Some form → IsSoundForm form
form_sound tree form s is =
    let (top, bars, rest) = bind_some (bars_in tree) _ form is in
    let (source, rows, rest) = bind_some (data_in top) _ form rest in
    let (fields, names, rest) = bind_some (fields_of top) _ form rest in
    let (values, found, rest) = bind_some (all_found (map (value_in fields.0 fields.1) source.1)) _ form rest in
    let each = bars_sound tree top s bars in
    let own = data_sound top source each rows in
    let both = fields_sound top fields each names in
    let same : (record { name = source.0; x = fields.0; y = fields.1; values = values }) ≡ form = cc in
    subst IsSoundForm same (record {
      name = own.0;
      x = both.0;
      y = both.1;
      values = values_sound fields.0 fields.1 source.1 values own.1 found;
    })
