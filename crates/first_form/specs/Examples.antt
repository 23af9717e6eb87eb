-- Whole pictures, worked out.
use Rattle.std.specs.Prelude.{◌≡◌, ℕ, List, [], ◌∷◌, ◌++◌, codes, refl}
use Rattle.fixed_num.specs.Number.{rounded, floored, ceiled, floor_quotient}
use Rattle.fixed_num.specs.Decimal.{spelling, size_spelling, fraction_spelling, fraction_digits}
use Rattle.std.specs.Fmt.{digits}
use Rattle.std.specs.Str.{chars}
use lib.Utf8.{encode}
use Rattle.first_form.specs.declared.form.Value.{Value}
use Rattle.tick_kit.specs.Steps.{step_of, spaced}
use Rattle.scene_tree.specs.Outcome.{Outcome, Drawn}
use Rattle.first_form.specs.Bars.{pixels, chart_of}

abbrev value : List ℕ → ℕ → Value
value category amount = record { category = category; amount = pixels amount }

-- the picture of values under the fields x and y
abbrev picture : List ℕ → List ℕ → List Value → Outcome (List ℕ)
picture x y values = chart_of (record { name = codes "t"; x = x; y = y; values = values })

-- a line with its end
abbrev line : List ℕ → List ℕ
line text = text ++ 10 ∷ []

-- a picture of this width with these bars
abbrev svg : List ℕ → List ℕ → List ℕ
svg width bars =
    codes "<svg xmlns=\"http://www.w3.org/2000/svg\" version=\"1.1\" width=\"" ++ width
    ++ codes "\" height=\"210\" viewBox=\"0 0 " ++ width ++ line (codes " 210\">")
    ++ line (codes "<g transform=\"translate(5,5)\">") ++ bars ++ line (codes "</g>") ++ line (codes "</svg>")

-- a bar at these places
abbrev bar : List ℕ → List ℕ → List ℕ → List ℕ
bar x y height =
    codes "<rect x=\"" ++ x ++ codes "\" y=\"" ++ y ++ codes "\" width=\"18\" height=\"" ++ height ++ line (codes "\" fill=\"#4c78a8\"/>")

abbrev three : List Value
three = value (codes "A") 28 ∷ value (codes "B") 55 ∷ value (codes "C") 43 ∷ []

-- the bars of three values in this order
abbrev bars_of_three : List ℕ
bars_of_three =
    bar (codes "1") (codes "98.181818") (codes "101.818182") ++ bar (codes "21") (codes "0") (codes "200")
    ++ bar (codes "41") (codes "43.636364") (codes "156.363636")

three_bars : picture (codes "a") (codes "b") three ≡ Drawn (svg (codes "70") bars_of_three)
unfolding step_of spaced rounded floored ceiled floor_quotient spelling size_spelling fraction_spelling fraction_digits digits chars encode
three_bars = refl

no_values : picture (codes "a") (codes "b") [] ≡ Drawn (svg (codes "10") [])
unfolding step_of spaced rounded floored ceiled floor_quotient spelling size_spelling fraction_spelling fraction_digits digits chars encode
no_values = refl

three_zeros : picture (codes "a") (codes "b") (value (codes "A") 0 ∷ value (codes "B") 0 ∷ value (codes "C") 0 ∷ [])
    ≡ Drawn (svg (codes "70") (
    bar (codes "1") (codes "100") (codes "0") ++ bar (codes "21") (codes "100") (codes "0") ++ bar (codes "41") (codes "100") (codes "0")))
unfolding step_of spaced rounded floored ceiled floor_quotient spelling size_spelling fraction_spelling fraction_digits digits chars encode
three_zeros = refl

-- a field `_vgsid_` along x gives each value a band of its own, by its id, whatever its category
ids_along_x : picture (codes "_vgsid_") (codes "b") (value (codes "C") 28 ∷ value (codes "A") 55 ∷ value (codes "A") 43 ∷ [])
    ≡ Drawn (svg (codes "70") bars_of_three)
unfolding step_of spaced rounded floored ceiled floor_quotient spelling size_spelling fraction_spelling fraction_digits digits chars encode
ids_along_x = refl

-- upward it draws the ids 1, 2 and 3 over the domain from 0 to 3, whatever the amounts
ids_upward : picture (codes "a") (codes "_vgsid_") three ≡ Drawn (svg (codes "70") (
    bar (codes "1") (codes "133.333333") (codes "66.666667") ++ bar (codes "21") (codes "66.666667") (codes "133.333333")
    ++ bar (codes "41") (codes "0") (codes "200")))
unfolding step_of spaced rounded floored ceiled floor_quotient spelling size_spelling fraction_spelling fraction_digits digits chars encode
ids_upward = refl
