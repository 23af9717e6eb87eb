-- Why a form that is read can be drawn.
use Rattle.std.proofs.Common.{◌≡◌, ◌≢◌, ℕ, suc, ◌*◌, ◌^◌, ◌%◌, ◌≤◌, ◌==◌, ◌&&◌, ℤ, pos, negsuc, ◌≤ℤ◌, Bool, true, false, nat_le}
use Rattle.std.proofs.Common.{if◌then◌else◌, Option, Some, None, List, [], ◌∷◌, length, map, codes, refl, sym, ap, subst, ◌∙◌, arith}
use Rattle.std.specs.List.{All}
use Rattle.std.specs.Str.{bytes_eq}
use Rattle.std.proofs.lemmas.Int.{ints}
use Rattle.std.proofs.lemmas.Bool.{false≢true}
use Rattle.std.proofs.lemmas.Bool.Decides.{nat_tests}
use Rattle.std.proofs.lemmas.Slice.Eq.{bytes_eq-Decides}
use Rattle.std.proofs.lemmas.List.Elements.{All-nil, All-cons}
use Rattle.fixed_num.specs.Number.{million}
use Rattle.json_exact.specs.declared.json.Json.{Json, out-Json}
use Rattle.json_exact.specs.declared.json.Member.{Member}
use Rattle.json_exact.specs.Inside.{text_in, number_in, items_in}
use Rattle.fixed_num.specs.Ranges.{◌>>=◌, all_found}
use Rattle.first_form.specs.declared.form.Value.{Value}
use Rattle.first_form.specs.FirstForm.{object_of, found_at, is_whole_amount, value_in, field_at, fields_of, data_in, bars_in}
use Rattle.first_form.specs.Drawable.{IsDrawableAmount, IsDrawable}
use Rattle.first_form.specs.Laws.{FormsAreDrawable}

-- what is there comes of what is there
bind_some : {A B : Type 0} (o : Option A) (f : A → Option B) (y : B) → (o >>= f) ≡ Some y → (x : A) × (o ≡ Some x) × (f x ≡ Some y)
bind_some None f y h = cc
bind_some (Some x) f y h = (x, refl, h)

-- what is kept passes the test
kept : {A : Type 0} (b : Bool) (x y : A) → (if b then Some x else None) ≡ Some y → (b ≡ true) × (x ≡ y)
kept true x y h = (refl, cc)
kept false x y h = cc

amount_bounds : (m : ℤ) → is_whole_amount m ≡ true → (pos 0 ≤ℤ m) × (m ≤ℤ pos (10 ^ 9 * million))
amount_bounds (negsuc n) h = absurd (false≢true h)
amount_bounds (pos n) h =
    let within : n ≤ 10 ^ 9 * million = second (n % million == 0) (nat_le n (10 ^ 9 * million)) h in
    (omega (arith, ints), omega (arith, ints))
  where
    second : (b c : Bool) → (b && nat_le n (10 ^ 9 * million)) ≡ true → n ≤ 10 ^ 9 * million
    second true c h = grind (arith, nat_tests)
    second false c h = absurd (false≢true h)

value_drawable : (x y : List ℕ) (row : Json) (value : Value) → value_in x y row ≡ Some value → IsDrawableAmount value
value_drawable x y row value is =
    let (members, object, rest) = bind_some (object_of (x ∷ y ∷ []) (out-Json row)) _ value is in
    let (category, text, rest) = bind_some (found_at text_in members x) _ value rest in
    let (amount, number, rest) = bind_some (found_at number_in members y) _ value rest in
    let (whole, same) = kept (is_whole_amount amount) (record { category = category; amount = amount }) value rest in
    subst IsDrawableAmount same (amount_bounds amount whole)

values_drawable : (x y : List ℕ) (rows : List Json) (values : List Value) → all_found (map (value_in x y) rows) ≡ Some values
    → (length values ≡ length rows) × All IsDrawableAmount values
values_drawable x y [] [] are = (refl, All-nil IsDrawableAmount)
values_drawable x y [] (v ∷ vs) are = absurd cc
values_drawable x y (row ∷ rows) values are =
    let (v, is, rest) = bind_some (value_in x y row) _ values are in
    let (vs, others, same) = bind_some (all_found (map (value_in x y) rows)) _ values rest in
    let all = values_drawable x y rows vs others in
    let same : v ∷ vs ≡ values = cc in
    subst (λ ws. (length ws ≡ suc (length rows)) × All IsDrawableAmount ws) same
    (ap suc all.0, All-cons IsDrawableAmount v vs (value_drawable x y row v is) all.1)

few_rows : (top : List Member) (found : List ℕ × List Json) → data_in top ≡ Some found → length found.1 ≤ 1000
few_rows top found is =
    let (source, object, rest) = bind_some (found_at (object_of (codes "name" ∷ codes "values" ∷ [])) top (codes "data")) _ found is in
    let (name, text, rest) = bind_some (found_at text_in source (codes "name")) _ found rest in
    let (rows, list, rest) = bind_some (found_at items_in source (codes "values")) _ found rest in
    let (few, same) = kept (nat_le (length rows) 1000) (name, rows) found rest in
    let within : length rows ≤ 1000 = grind (arith, nat_tests) in
    subst (λ (pair : List ℕ × List Json). length pair.1 ≤ 1000) same within

differ : (x y : List ℕ) (b : Bool) (pair : List ℕ × List ℕ) → bytes_eq x y ≡ b → (if b then None else Some (x, y)) ≡ Some pair
    → pair.0 ≢ pair.1
differ x y true pair e h = cc
differ x y false pair e h =
    let same : (x, y) ≡ pair = cc in
    subst (λ (pair : List ℕ × List ℕ). pair.0 ≢ pair.1) same (λ alike. false≢true (sym e ∙ (bytes_eq-Decides x y).1 alike))

fields_differ : (top : List Member) (fields : List ℕ × List ℕ) → fields_of top ≡ Some fields → fields.0 ≢ fields.1
fields_differ top fields is =
    let (encoding, object, rest) = bind_some (found_at (object_of (codes "x" ∷ codes "y" ∷ [])) top (codes "encoding")) _ fields is in
    let (x, nominal, rest) = bind_some (field_at encoding (codes "x") (codes "nominal")) _ fields rest in
    let (y, quantitative, rest) = bind_some (field_at encoding (codes "y") (codes "quantitative")) _ fields rest in
    differ x y (bytes_eq x y) fields refl rest

pub forms_are_drawable : FormsAreDrawable
forms_are_drawable tree form is =
    let (top, bars, rest) = bind_some (bars_in tree) _ form is in
    let (source, rows, rest) = bind_some (data_in top) _ form rest in
    let (fields, names, rest) = bind_some (fields_of top) _ form rest in
    let (values, found, rest) = bind_some (all_found (map (value_in fields.0 fields.1) source.1)) _ form rest in
    let all = values_drawable fields.0 fields.1 source.1 values found in
    let few = few_rows top source rows in
    let same : (record { name = source.0; x = fields.0; y = fields.1; values = values }) ≡ form = cc in
    subst IsDrawable same (record { few = omega (arith, all.0); amounts = all.1; apart = fields_differ top fields names })
