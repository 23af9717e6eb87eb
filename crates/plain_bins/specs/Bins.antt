-- Bins, and the bin of a number.
use Rattle.std.specs.Prelude.{◌≡◌, refl, ℤ, pos, neg_ℤ, ◌+ℤ◌, ◌-ℤ◌, int_lt, Option, Some, None, if◌then◌else◌}
use Rattle.std.specs.Int.{int_min, int_max}
use Rattle.std.specs.Option.{option_and_then}
use Rattle.fixed_num.specs.Number.{limit, floored, ceiled, floor_quotient}
use Rattle.fixed_num.specs.Ranges.{◌>>=◌, in_range}
use Rattle.cell_value.specs.declared.cell.Cell.{Cell}
use Rattle.cell_value.specs.Cell.{number_in}
use Rattle.plain_rows.specs.declared.transforms.BinOf.{BinOf}
use Rattle.plain_bins.specs.declared.bins.Bins.{Bins}
use Rattle.plain_bins.specs.Steps.{step_of}

-- the numbers that bins reach over: those given, in either order, or else those found
abbrev pub low_end : Option (ℤ × ℤ) → ℤ → ℤ
low_end None low = low
low_end (Some given) low = int_min given.0 given.1

abbrev pub high_end : Option (ℤ × ℤ) → ℤ → ℤ
high_end None high = high
high_end (Some given) high = int_max given.0 given.1

-- bins from the multiple of their width below a number to the multiple above another, one bin at least; none where an end is out of range
abbrev pub bins_between : ℤ → ℤ → ℤ → Option Bins
bins_between step low high = do
  start ← in_range (floored low step)
  top ← in_range (ceiled high step)
  next ← in_range (start +ℤ step)
  Some (record { start = start; step = step; stop = int_max top next })

-- the bins for numbers between two; none where their width or an end is out of range
abbrev pub bins_of : BinOf → ℤ × ℤ → Option Bins
bins_of b found = do
  step ← step_of b (low_end b.extent found.0) (high_end b.extent found.1)
  bins_between step (low_end b.extent found.0) (high_end b.extent found.1)

-- where the bin of a number begins, counted in whole widths from the start; that of a number at the stop is the last
abbrev pub start_of : Bins → ℤ → ℤ
start_of bins v = int_min (bins.start +ℤ floored (v -ℤ bins.start) bins.step) (bins.stop -ℤ bins.step)

-- the start and the end of the bin of a number; none where it lies outside the bins
abbrev pub bin_in : Bins → ℤ → Option (ℤ × ℤ)
bin_in bins v =
    if int_lt v bins.start then None
    else (if int_lt bins.stop v then None else Some (start_of bins v, start_of bins v +ℤ bins.step))

-- the same of a cell; none where it is no number, or there are no bins
abbrev pub bin_of : Option Bins → Cell → Option (ℤ × ℤ)
bin_of None cell = None
bin_of (Some bins) cell = option_and_then (bin_in bins) (number_in cell)

-- The rules at work.

abbrev ten_bins : Bins
ten_bins = record { start = pos 0; step = pos 1; stop = pos 10 }

bins_up_to_the_greatest_number : bins_between (pos 1) (pos 0) (pos 10) ≡ Some ten_bins
unfolding floored ceiled floor_quotient
bins_up_to_the_greatest_number = refl

one_bin_at_least : bins_between (pos 5) (pos 10) (pos 10) ≡ Some (record { start = pos 10; step = pos 5; stop = pos 15 })
unfolding floored ceiled floor_quotient
one_bin_at_least = refl

an_end_out_of_range : bins_between (pos 1) (pos limit) (pos limit) ≡ None
unfolding floored ceiled floor_quotient
an_end_out_of_range = refl

the_bin_of_three : bin_in ten_bins (pos 3) ≡ Some (pos 3, pos 4)
unfolding floored floor_quotient
the_bin_of_three = refl

the_stop_is_in_the_last_bin : bin_in ten_bins (pos 10) ≡ Some (pos 9, pos 10)
unfolding floored floor_quotient
the_stop_is_in_the_last_bin = refl

no_bin_below_the_start : bin_in ten_bins (neg_ℤ (pos 1)) ≡ None
no_bin_below_the_start = refl

no_bin_above_the_stop : bin_in ten_bins (pos 11) ≡ None
no_bin_above_the_stop = refl
