-- Which charts of the first form can be drawn: all that are read, by a law.
use Rattle.std.specs.Prelude.{◌≢◌, ◌≤◌, ◌*◌, ◌^◌, pos, ◌≤ℤ◌, length}
use Rattle.std.specs.List.{All}
use Rattle.fixed_num.specs.Number.{million}
use Rattle.first_form.specs.declared.form.FirstForm.{FirstForm}
use Rattle.first_form.specs.declared.form.Value.{Value}

-- an amount from 0 to 1,000,000,000
abbrev pub IsDrawableAmount : Value → Type 0
IsDrawableAmount value = (pos 0 ≤ℤ value.amount) × (value.amount ≤ℤ pos (10 ^ 9 * million))

-- at most 1,000 values with such amounts, under two fields that differ
pub record IsDrawable (form : FirstForm) : Type 0 where
  pub few : length form.values ≤ 1000
  pub amounts : All IsDrawableAmount form.values
  pub apart : form.x ≢ form.y
