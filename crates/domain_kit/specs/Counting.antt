-- Which cells count for a continuous domain, and as which numbers.
use Rattle.std.specs.Prelude.{◌≡◌, refl, Bool, true, false, ℤ, pos, negsuc, Option, Some, None, List, [], ◌∷◌, filter_map, codes}
use Rattle.std.specs.Prelude.{if◌then◌else◌, unwrap_or}
use Rattle.std.specs.Option.{option_map}
use Rattle.fixed_num.specs.Number.{million, floored, ceiled, floor_quotient}
use Rattle.fixed_num.specs.Ranges.{◌>>=◌}
use Rattle.time_calc.specs.Instants.{first_instant, last_instant, instant_number}
use Rattle.time_calc.specs.Texts.{read_instant}
use Rattle.cell_value.specs.declared.cell.Cell.{Cell}
use Rattle.cell_value.specs.declared.cell.Cell.TheVariants.{Null, Flag, Number, Text, Pair}
use Rattle.expr_eval.specs.Numbers.{the_number}
use Rattle.tick_kit.specs.Domains.{least, greatest, extent_of, with_zero}
use Rattle.tick_kit.specs.Steps.{nice_of, step_of, spaced}
use Rattle.scale_kit.specs.Lines.{cut_to}
use Rattle.scale_kit.specs.Places.{in_time, the_instant}
use Rattle.domain_kit.specs.declared.counting.Counting.{Counting}
use Rattle.domain_kit.specs.declared.counting.Counting.TheVariants.{Numbers, Instants, ListedInstants}

-- the instant in range for which a cell of a list stands on a time scale: a number for itself, a text for the instant that it gives
abbrev pub listed_instant : Cell → Option ℤ
listed_instant Null = None
listed_instant (Flag b) = None
listed_instant (Number n) = in_time n
listed_instant (Text t) = read_instant t >>= in_time
listed_instant (Pair a b) = None

-- the number as which a cell counts, if it counts
abbrev pub counted : Counting → Cell → Option ℤ
counted Numbers cell = the_number cell
counted Instants cell = the_instant cell
counted ListedInstants cell = listed_instant cell

-- the least and the greatest number as which cells count, 0 and 1 where none counts
abbrev pub extent_among : Counting → List Cell → ℤ × ℤ
extent_among counting cells = extent_of (filter_map (counted counting) cells)

-- the least and the greatest of some numbers, none where there are none
abbrev pub ends_of : List ℤ → Option (ℤ × ℤ)
ends_of [] = None
ends_of (m ∷ ms) = Some (least m ms, greatest m ms)

-- the extent between these, 0 and 1 without them
abbrev pub extent_between : Option (ℤ × ℤ) → ℤ × ℤ
extent_between ends = unwrap_or ends (pos 0, pos million)

-- the numbers of a scale whose domain isn't one of time, and the instants of one whose domain is
abbrev pub numbers_or_instants : Bool → Counting
numbers_or_instants is_time = if is_time then Instants else Numbers

-- the two numbers of a pair, as far as they count, from the lesser to the greater; no other cell gives a domain
abbrev pub pair_in : Counting → Cell → Option (ℤ × ℤ)
pair_in counting Null = None
pair_in counting (Flag b) = None
pair_in counting (Number n) = None
pair_in counting (Text t) = None
pair_in counting (Pair a b) = Some (extent_among counting (Number a ∷ Number b ∷ []))

-- a number cut to the range of instants
abbrev pub cut_in_time : ℤ → ℤ
cut_in_time n = cut_to (instant_number first_instant, instant_number last_instant) n

-- a domain widened to round numbers; on a time scale it is cut to the range of instants
abbrev pub widened : Bool → ℤ × ℤ → Option (ℤ × ℤ)
widened is_time ends =
    if is_time then option_map (λ (wide : ℤ × ℤ). (cut_in_time wide.0, cut_in_time wide.1)) (nice_of 10 ends) else nice_of 10 ends

-- a domain that takes in 0 where that is asked, and then is widened to round numbers where that is asked; None where it is widened out
-- of range
abbrev pub widened_as_asked : Bool → Bool → Bool → ℤ × ℤ → Option (ℤ × ℤ)
widened_as_asked is_time takes_zero is_nice ends =
    let taken = if takes_zero then with_zero ends else ends in
    if is_nice then widened is_time taken else Some taken

-- The rules at work.

-- the last instant in range, and half a millisecond later
abbrev last : ℤ
last = pos 253370764799999000000

abbrev past_the_last : ℤ
past_the_last = pos 253370764799999500000

-- the last instant, one past it, a text and null
abbrev some_cells : List Cell
some_cells = Number last ∷ Number past_the_last ∷ Text (codes "x") ∷ Null ∷ []

only_instants_in_range_count : (extent_among Instants some_cells ≡ (last, last)) × (extent_among Numbers some_cells ≡ (last, past_the_last))
only_instants_in_range_count = (refl, refl)

a_raw_domain_in_either_order : (pair_in Numbers (Pair (pos 5) (negsuc 0)) ≡ Some (negsuc 0, pos 5))
    × (pair_in Instants (Pair past_the_last (pos 7)) ≡ Some (pos 7, pos 7))
    × (pair_in Instants (Pair past_the_last past_the_last) ≡ Some (pos 0, pos million))
a_raw_domain_in_either_order = (refl, refl, refl)

-- from 1 January 9998 to the last instant
abbrev the_last_year : ℤ × ℤ
the_last_year = (pos 253339228800000000000, last)

what_is_made_nice_is_cut : (widened true the_last_year ≡ Some (pos 253335000000000000000, last))
    × (widened false the_last_year ≡ Some (pos 253335000000000000000, pos 253375000000000000000))
unfolding step_of spaced floored ceiled floor_quotient
what_is_made_nice_is_cut = (refl, refl)
