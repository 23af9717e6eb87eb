-- Numbers that have a form of their shape.
use Rattle.std.proofs.Common.{◌≡◌, ◌*◌, ℕ, ℤ, pos, ◌≤ℤ◌, cond, refl, arith}
use Rattle.std.specs.Prelude.{Bool, true, false, Option, Some, None, IfSome, option_map, int_lt}
use Rattle.std.proofs.lemmas.Int.{ints}
use Rattle.std.proofs.lemmas.Bool.{and_parts as both}
use Rattle.fixed_num.specs.Number.{million}
use Rattle.fixed_num.specs.Ranges.{is_within}
use Rattle.json_exact.specs.declared.json.Json.{Json, out-Json}
use Rattle.json_exact.specs.declared.json.Json.TheOpen as level
use Rattle.json_exact.specs.Inside.{number_in}
use Rattle.spec_schema.specs.declared.form.Form.{Form}
use Rattle.spec_schema.specs.declared.form.Shape.{Shape}
use Rattle.spec_schema.specs.Values.{Opened, number_passes, is_whole, is_whole_between}
use Rattle.spec_schema.specs.Forms.{taken_form}
use Rattle.vega_schema.specs.declared.codes.TheConstants.{SHARE, SPACE, COUNT, TICK_COUNT, STEP, RANGE_NUMBER}
use Rattle.vega_schema.specs.Schema.{vega_schema}
use Rattle.vega_schema.specs.Shapes.{most_number, leaves, named, lists, objects}
use Rattle.vega_parts.specs.Trails.{Trail}
use Rattle.scale_kit.specs.Scale.{IsPadding, IsPixel}
use Rattle.vega_guides.specs.Shown.{IsCount}
use Rattle.vega_standing.proofs.Stands.{Stands, formed}

-- where there is one form that may be taken, it is the one, and its test holds
pub if_taken : (b : Bool) (s : Shape) (f : Form) → option_map (λ (s : Shape). s.form) (cond b (Some s) None) ≡ Some f → b ≡ true
if_taken true s f e = refl
if_taken false s f e = absurd cc

pub form_taken : (b : Bool) (s : Shape) (f : Form) → option_map (λ (s : Shape). s.form) (cond b (Some s) None) ≡ Some f → s.form ≡ f
form_taken true s f e = cc
form_taken false s f e = absurd cc

numbered : (test : ℤ → Bool) (s : Shape) (o : Opened) (f : Form) → option_map (λ (s : Shape). s.form) (cond (number_passes test o) (Some s) None) ≡ Some f
    → IfSome (number_in o) (λ n. test n ≡ true)
numbered test s level.Null f e = tt
numbered test s (level.Flag b) f e = tt
numbered test s (level.Number n) f e = if_taken _ _ f e
numbered test s level.Huge f e = tt
numbered test s (level.Text t) f e = tt
numbered test s (level.List items) f e = tt
numbered test s (level.Object members) f e = tt

pub within : (low high n : ℤ) → is_within low high n ≡ true → (low ≤ℤ n) × (n ≤ℤ high)
within low high n e = (grind (arith, ints), grind (arith, ints))

-- what holds of what is there
pub some_of : {A : Type 0} (P Q : A → Type 0) → ((x : A) → P x → Q x) → (o : Option A) → IfSome o P → IfSome o Q
some_of P Q f None p = tt
some_of P Q f (Some x) p = f x p

module _ (round : Trail) (number : ℕ) (tree : Json) where
  share_tested : (f : Form) → taken_form vega_schema SHARE (out-Json tree) ≡ Some f
      → IfSome (number_in (out-Json tree)) (λ n. is_within (pos 0) (pos 1000000) n ≡ true)
  unfolding vega_schema leaves named lists objects
  share_tested f e = numbered _ _ (out-Json tree) f e

  -- a share is a padding
  pub share : Stands round number SHARE tree → IfSome (number_in (out-Json tree)) IsPadding
  share s = let form = formed SHARE tree s.fine in
      some_of _ IsPadding (λ n e. within (pos 0) (pos 1000000) n e) _ (share_tested form.0 form.1)

  space_tested : (f : Form) → taken_form vega_schema SPACE (out-Json tree) ≡ Some f
      → IfSome (number_in (out-Json tree)) (λ n. is_within (pos 0) (pos 1000000000) n ≡ true)
  unfolding vega_schema leaves named lists objects
  space_tested f e = numbered _ _ (out-Json tree) f e

  pub space : Stands round number SPACE tree → IfSome (number_in (out-Json tree)) (λ n. (pos 0 ≤ℤ n) × (n ≤ℤ pos (1000 * million)))
  space s = let form = formed SPACE tree s.fine in
      some_of _ (λ n. (pos 0 ≤ℤ n) × (n ≤ℤ pos (1000 * million))) (λ n e. within (pos 0) (pos 1000000000) n e) _ (space_tested form.0 form.1)

  count_tested : (f : Form) → taken_form vega_schema COUNT (out-Json tree) ≡ Some f
      → IfSome (number_in (out-Json tree)) (λ n. is_whole_between (pos 1000000) (pos 1000000000) n ≡ true)
  unfolding vega_schema leaves named lists objects
  count_tested f e = numbered _ _ (out-Json tree) f e

  pub count : Stands round number COUNT tree → IfSome (number_in (out-Json tree)) IsCount
  count s = let form = formed COUNT tree s.fine in
      some_of _ IsCount (λ n e. within (pos 1000000) (pos 1000000000) n (both (is_whole n) _ e).1) _ (count_tested form.0 form.1)

  ticks_tested : (f : Form) → taken_form vega_schema TICK_COUNT (out-Json tree) ≡ Some f
      → IfSome (number_in (out-Json tree)) (λ n. is_whole_between (pos 1000000) (pos 100000000) n ≡ true)
  unfolding vega_schema leaves named lists objects
  ticks_tested f e = numbered _ _ (out-Json tree) f e

  pub ticks : Stands round number TICK_COUNT tree → IfSome (number_in (out-Json tree)) IsCount
  ticks s = let form = formed TICK_COUNT tree s.fine in
      some_of _ IsCount (λ n e. let w = within (pos 1000000) (pos 100000000) n (both (is_whole n) _ e).1 in few n w.0 w.1) _ (ticks_tested form.0 form.1)
    where
      few : (n : ℤ) → pos 1000000 ≤ℤ n → n ≤ℤ pos 100000000 → IsCount n
      few n a b = (a, omega (arith, ints))

  step_tested : (f : Form) → taken_form vega_schema STEP (out-Json tree) ≡ Some f
      → IfSome (number_in (out-Json tree)) (λ n. is_within (pos 1) most_number n ≡ true)
  unfolding vega_schema leaves named lists objects
  step_tested f e = numbered _ _ (out-Json tree) f e

  pub step : Stands round number STEP tree → IfSome (number_in (out-Json tree)) (λ n. int_lt (pos 0) n ≡ true)
  step s = let form = formed STEP tree s.fine in
      some_of _ (λ n. int_lt (pos 0) n ≡ true) (λ n e. over n (within (pos 1) most_number n e).0) _ (step_tested form.0 form.1)
    where
      over : (n : ℤ) → pos 1 ≤ℤ n → int_lt (pos 0) n ≡ true
      over n a = grind (arith, ints)

  place_tested : (f : Form) → taken_form vega_schema RANGE_NUMBER (out-Json tree) ≡ Some f
      → IfSome (number_in (out-Json tree)) (λ n. is_within (pos 0) (pos 1000000000000) n ≡ true)
  unfolding vega_schema leaves named lists objects
  place_tested f e = numbered _ _ (out-Json tree) f e

  pub place : Stands round number RANGE_NUMBER tree → IfSome (number_in (out-Json tree)) IsPixel
  place s = let form = formed RANGE_NUMBER tree s.fine in
      some_of _ IsPixel (λ n e. let w = within (pos 0) (pos 1000000000000) n e in near n w.0 w.1) _ (place_tested form.0 form.1)
    where
      near : (n : ℤ) → pos 0 ≤ℤ n → n ≤ℤ pos 1000000000000 → IsPixel n
      near n a b = (a, omega (arith, ints))
