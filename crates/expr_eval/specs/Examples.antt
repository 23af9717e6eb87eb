-- Operators and builtins at work.
use Rattle.std.specs.Prelude.{◌≡◌, ℕ, ◌*◌, ◌^◌, pos, negsuc, neg_ℤ, Some, None, true, false, codes, [], ◌∷◌, refl}
use Rattle.std.specs.Fmt.{digits}
use Rattle.std.specs.Str.{chars}
use Rattle.fixed_num.specs.Number.{rounded_ratio, rounded, floored, floor_quotient}
use Rattle.fixed_num.specs.Decimal.{spelling, size_spelling, fraction_spelling, fraction_digits}
use Rattle.fixed_num.specs.JsonNumber.{decimal_value, scaled}
use Rattle.fixed_num.specs.Front.{parts_at, whole_at, fraction_at, exponent_at, digits_at, leading_digits, after_digits}
use Rattle.expr_syntax.specs.NumberText.{parts_of}
use Rattle.time_calc.specs.Calendar.{day_count, days_before_year, days_of_months, date_of_count, greatest_passing}
use Rattle.time_calc.specs.Datetime.{whole_of, first_day}
use Rattle.time_calc.specs.Instants.{day_of_instant}
use Rattle.cell_value.specs.declared.cell.Cell.{Cell}
use Rattle.cell_value.specs.declared.cell.Cell.TheVariants.{Null, Flag, Number, Text}
use Rattle.expr_syntax.specs.declared.expr.BinOp.TheVariants.{And, Like, Add, Div, Rem}
use Rattle.fixed_num.specs.Ranges.{◌>>=◌}
use Rattle.expr_eval.specs.Numbers.{number_in_text}
use Rattle.expr_eval.specs.Operations.{operated, binary_of}
use Rattle.expr_eval.specs.Table.{builtin, builtin_table}

-- whole numbers from 0 on, and below 0
abbrev whole : ℕ → Cell
whole n = Number (pos (n * 1000000))

abbrev minus : ℕ → Cell
minus n = Number (neg_ℤ (pos (n * 1000000)))

over_zero : operated Div (whole 1) (whole 0) ≡ Some Null
over_zero = refl

a_third : operated Div (whole 1) (whole 3) ≡ Some (Number (pos 333333))
unfolding rounded_ratio rounded floor_quotient
a_third = refl

a_text_and_a_number : operated Add (Text (codes "a")) (whole 1) ≡ Some (Text (codes "a1"))
unfolding spelling size_spelling fraction_spelling fraction_digits digits
a_text_and_a_number = refl

the_sign_of_a_remainder : (operated Rem (whole 5) (minus 3) ≡ Some (whole 2)) × (operated Rem (minus 5) (whole 3) ≡ Some (minus 2))
the_sign_of_a_remainder = (refl, refl)

a_sum_out_of_range : operated Add (whole (9 * 10 ^ 14)) (whole (9 * 10 ^ 14)) ≡ None
a_sum_out_of_range = refl

an_operand_that_is_not_needed : binary_of And (Some (Flag false)) None ≡ Some (Flag false)
an_operand_that_is_not_needed = refl

a_text_that_spells_a_number : operated Like (Text (codes "1.0")) (Flag true) ≡ Some (Flag true)
unfolding number_in_text decimal_value scaled parts_of parts_at whole_at fraction_at exponent_at digits_at leading_digits after_digits
a_text_that_spells_a_number = refl

null_and_zero : operated Like Null (whole 0) ≡ Some (Flag false)
null_and_zero = refl

half_below_zero : builtin 11 (Number (negsuc 499999) ∷ []) ≡ Some (whole 0)
unfolding builtin_table floored floor_quotient
half_below_zero = refl

a_character_above_the_plane : builtin 17 (Text (240 ∷ 159 ∷ 152 ∷ 128 ∷ []) ∷ []) ≡ Some (whole 2)
unfolding builtin_table chars
a_character_above_the_plane = refl

a_leap_day : (builtin 38 (whole 2024 ∷ whole 1 ∷ whole 29 ∷ []) >>= λ day. builtin 21 (day ∷ [])) ≡ Some (whole 1)
unfolding builtin_table whole_of first_day day_count days_before_year days_of_months day_of_instant date_of_count greatest_passing
a_leap_day = refl

the_29th_of_February_2023 : builtin 38 (whole 2023 ∷ whole 1 ∷ whole 29 ∷ []) ≡ Some (whole 1677628800000)
unfolding builtin_table whole_of first_day day_count days_before_year days_of_months
the_29th_of_February_2023 = refl
