-- The name of a field without `\` is its text.
use Rattle.std.proofs.Common.{◌≡◌, ℕ, ◌==◌, Bool, true, false, ◌&&◌, not, List, [], ◌∷◌, if◌then◌else◌, refl, ap}
use Rattle.std.proofs.lemmas.Bool.{false≢true}
use Rattle.vl_building.specs.Fields.{begins_with_mark, field_name}
use Rattle.first_form.specs.FirstForm.{is_plain}
use Rattle.form_reading.proofs.Orders.{both}

step : (b mark : Bool) (c : ℕ) (text named : List ℕ) → not b ≡ true → named ≡ text → (if b && mark then named else c ∷ named) ≡ c ∷ text
step true mark c text named h is = absurd (false≢true h)
step false mark c text named h is = ap (λ xs. c ∷ xs) is

pub plain_name : (text : List ℕ) → is_plain text ≡ true → field_name text ≡ text
plain_name [] h = refl
plain_name (c ∷ text) h =
    let parts = both (not (c == 92)) (is_plain text) h in
    step (c == 92) (begins_with_mark text) c text (field_name text) parts.0 (plain_name text parts.1)
