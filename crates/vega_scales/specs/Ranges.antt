-- The ranges and the paddings of scales.
use Rattle.std.specs.Prelude.{◌≡◌, refl, Bool, true, false, ℤ, pos, Option, Some, None, List, [], ◌∷◌, unwrap_or, if◌then◌else◌}
use Rattle.std.specs.Option.{option_or}
use Rattle.cell_value.specs.declared.cell.Cell.{Cell}
use Rattle.cell_value.specs.declared.cell.Cell.TheVariants.{Null, Number}
use Rattle.vega_spec.specs.declared.scales.Range.{Range}
use Rattle.vega_spec.specs.declared.scales.Range.TheVariants.{Cells, Width, Height, Category, Ramp, Symbol}
use Rattle.fixed_num.specs.Ranges.{◌>>=◌}
use Rattle.expr_eval.specs.Numbers.{the_number}

-- the ends of a list of two numbers
abbrev pub two_numbers : List Cell → Option (ℤ × ℤ)
two_numbers [] = None
two_numbers (a ∷ []) = None
two_numbers (a ∷ b ∷ []) = do
  from ← the_number a
  to ← the_number b
  Some (from, to)
two_numbers (a ∷ b ∷ c ∷ cells) = None

-- The ends of a range in a plot of this width and height: numbers that are given as they are, the width from 0 on, and the height from 0
-- on for a discrete scale and down to 0 for a continuous one. Other ranges have no ends.
abbrev pub ends_in : Bool → ℤ → ℤ → Range → Option (ℤ × ℤ)
ends_in discrete width height (Cells cells) = two_numbers cells
ends_in discrete width height Width = Some (pos 0, width)
ends_in discrete width height Height = Some (if discrete then (pos 0, height) else (height, pos 0))
ends_in discrete width height Category = None
ends_in discrete width height Ramp = None
ends_in discrete width height Symbol = None

-- the ends of a range that is turned round where that is asked
abbrev pub turned : Bool → ℤ × ℤ → ℤ × ℤ
turned reverse ends = if reverse then (ends.1, ends.0) else ends

-- a padding: its own, else the one that is given for both, else 0
abbrev pub padding_of : Option ℤ → Option ℤ → ℤ
padding_of own both = unwrap_or (option_or own both) (pos 0)

-- The rules at work.

-- a plot of 60 by 200
abbrev ends : Bool → Range → Option (ℤ × ℤ)
ends discrete range = ends_in discrete (pos 60) (pos 200) range

up_where_continuous_and_down_where_discrete : (ends false Height ≡ Some (pos 200, pos 0)) × (ends true Height ≡ Some (pos 0, pos 200))
up_where_continuous_and_down_where_discrete = (refl, refl)

two_numbers_in_their_order : ends true (Cells (Number (pos 9) ∷ Number (pos 3) ∷ [])) ≡ Some (pos 9, pos 3)
two_numbers_in_their_order = refl

no_ends : (ends true Symbol ≡ None) × (ends true (Cells (Number (pos 9) ∷ [])) ≡ None)
    × (ends true (Cells (Null ∷ Number (pos 9) ∷ [])) ≡ None)
no_ends = (refl, refl, refl)

turned_round : turned true (pos 0, pos 60) ≡ (pos 60, pos 0)
turned_round = refl

its_own_before_the_one_for_both : (padding_of (Some (pos 1)) (Some (pos 2)) ≡ pos 1) × (padding_of None (Some (pos 2)) ≡ pos 2)
    × (padding_of None None ≡ pos 0)
its_own_before_the_one_for_both = (refl, refl, refl)
