-- The scales of a Vega specification, from its lists of rows.
use Rattle.std.specs.Prelude.{◌≡◌, refl, ℕ, ◌*◌, ◌==◌, ◌&&◌, ◌||◌, not, nat_lt, Bool, true, false, ℤ, pos, ◌≤ℤ◌, Option, Some, None, List, []}
use Rattle.std.specs.Prelude.{◌∷◌, length, unwrap_or, is_some, IfSome, IsTrue, codes, if◌then◌else◌}
use Rattle.std.specs.Option.{option_map}
use Rattle.fixed_num.specs.Number.{million, rounded, floored, ceiled, floor_quotient}
use Rattle.case_table.specs.Names.{index_of, operations, scale_kinds}
use Rattle.cell_value.specs.declared.cell.Cell.{Cell}
use Rattle.cell_value.specs.declared.cell.Cell.TheVariants.{Null, Number, Text}
use Rattle.expr_eval.specs.Values.{Values}
use Rattle.vega_spec.specs.declared.domains.Domain.{Domain}
use Rattle.vega_spec.specs.declared.domains.Domain.TheVariants as domain
use Rattle.vega_spec.specs.declared.domains.DomainOrder.{DomainOrder}
use Rattle.vega_spec.specs.declared.domains.DomainOrder.TheVariants as order
use Rattle.vega_spec.specs.declared.scales.Range.{Range}
use Rattle.vega_spec.specs.declared.scales.Range.TheVariants as range
use Rattle.vega_spec.specs.declared.scales.Scale.{Scale as VegaScale}
use Rattle.vega_lists.specs.Scopes.{Scope, no_lists}
use Rattle.tick_kit.specs.Steps.{step_of, spaced}
use Rattle.scale_kit.specs.declared.scale.Scale.{Scale}
use Rattle.scale_kit.specs.declared.scale.Scale.TheVariants.{Linear, Time, Band, Point, Ordinal, Ramp}
use Rattle.scale_kit.specs.Scale.{IsPadding, IsRange, AreInstants}
use Rattle.domain_kit.specs.Entries.{entries_turned, color_from, color_to, first_color, last_color}
use Rattle.vega_scales.specs.declared.scaled.Scaled.{Scaled}
use Rattle.vega_scales.specs.declared.scaled.Scaled.TheVariants.{Cells, Between}
use Rattle.vega_scales.specs.Domains.{discrete_domain, continuous_domain}
use Rattle.vega_scales.specs.Entries.{entries_of}
use Rattle.vega_scales.specs.Ranges.{two_numbers, ends_in, turned, padding_of}

-- the codes of the kinds of scales
abbrev pub linear : ℕ
linear = 0

abbrev pub time : ℕ
time = 1

abbrev pub band : ℕ
band = 2

abbrev pub point : ℕ
point = 3

abbrev pub ordinal : ℕ
ordinal = 4

-- a discrete scale has a domain of cells; others have one from a number to another
abbrev pub is_discrete : VegaScale → Bool
is_discrete s = s.type_ == band || (s.type_ == point || s.type_ == ordinal)

-- an ordinal scale has an entry of its range for each cell, and no places
abbrev pub is_ordinal : VegaScale → Bool
is_ordinal s = s.type_ == ordinal

-- a time scale has a domain of instants
abbrev pub is_time : VegaScale → Bool
is_time s = s.type_ == time

-- a flag that is absent is false
abbrev pub is_set : Option Bool → Bool
is_set flag = unwrap_or flag false

-- whether the domain of a scale takes in 0: as the scale says; one that says nothing does where it is linear
abbrev pub takes_zero : VegaScale → Bool
takes_zero s = unwrap_or s.zero (s.type_ == linear)

-- the ends of a scale's range in a plot of this width and height; 0 and 0 for a range that has none
abbrev pub ends_of : VegaScale → ℤ → ℤ → ℤ × ℤ
ends_of s width height = turned (is_set s.reverse) (unwrap_or (ends_in (is_discrete s) width height s.range) (pos 0, pos 0))

-- the cells of a discrete scale; its raw domain does nothing
abbrev pub cells_of_scale : Values → Scope → VegaScale → Option (List Cell)
cells_of_scale values scope s = discrete_domain values scope s.domain

-- the numbers between which the domain of a continuous scale runs
abbrev pub numbers_of_scale : Values → Scope → VegaScale → Option (ℤ × ℤ)
numbers_of_scale values scope s = continuous_domain values scope (is_time s) s.domain_raw (takes_zero s) (is_set s.nice) s.domain

-- a band or a point for each cell
abbrev pub banded : VegaScale → ℤ × ℤ → List Cell → Scale
banded s ends cells =
    if s.type_ == band then Band cells (padding_of s.padding_inner s.padding) (padding_of s.padding_outer s.padding) ends.0 ends.1
    else Point cells (padding_of s.padding_outer s.padding) ends.0 ends.1

-- an entry of the range for each cell, of the range turned round where that is asked
abbrev pub ordinal_over : VegaScale → List Cell → Scale
ordinal_over s cells = Ordinal cells (entries_turned (is_set s.reverse) (entries_of s.range (length cells)))

-- whether a range is the one of a ramp
abbrev pub is_ramp : Range → Bool
is_ramp (range.Cells cells) = false
is_ramp range.Width = false
is_ramp range.Height = false
is_ramp range.Category = false
is_ramp range.Ramp = true
is_ramp range.Symbol = false

-- the numbers or the instants of a domain, laid over a range of places, or over the colours of a ramp
abbrev pub over_numbers : VegaScale → ℤ × ℤ → ℤ × ℤ → Scale
over_numbers s ends numbers =
    if is_ramp s.range
    then Ramp (is_time s) numbers.0 numbers.1 (color_from (is_set s.reverse)) (color_to (is_set s.reverse))
    else (if is_time s then Time numbers.0 numbers.1 ends.0 ends.1 else Linear numbers.0 numbers.1 ends.0 ends.1)

-- the domain between two numbers
abbrev pub between : ℤ × ℤ → Scaled
between numbers = Between numbers.0 numbers.1

-- what a scale scales, from lists and values; None where it overflows
abbrev pub domain_of : Values → Scope → VegaScale → Option Scaled
domain_of values scope s =
    if is_discrete s then option_map Cells (cells_of_scale values scope s) else option_map between (numbers_of_scale values scope s)

-- the scale over that domain in a plot of this width and height
abbrev pub scale_over : VegaScale → ℤ → ℤ → Scaled → Scale
scale_over s width height (Cells cells) = if is_ordinal s then ordinal_over s cells else banded s (ends_of s width height) cells
scale_over s width height (Between d0 d1) = over_numbers s (ends_of s width height) (d0, d1)

-- how many cells a domain has, 2 for one between numbers
abbrev pub domain_size : Scaled → ℕ
domain_size (Cells cells) = length cells
domain_size (Between d0 d1) = 2

-- the scale in a plot of this width and height; None where its domain overflows
abbrev pub scale_of : Values → Scope → ℤ → ℤ → VegaScale → Option Scale
scale_of values scope width height s = option_map (scale_over s width height) (domain_of values scope s)

-- how long the domain of a scale is: as many cells as a discrete one has, and 2 otherwise; None where a discrete domain overflows
abbrev pub domain_length : Values → Scope → VegaScale → Option ℕ
domain_length values scope s = if is_discrete s then option_map length (cells_of_scale values scope s) else Some 2

-- Such a domain as `domain_of` gives for a scale: cells for a discrete one, and for another numbers in order, which are instants in range
-- where it is one of time.
abbrev pub FitsScale : VegaScale → Scaled → Type 0
FitsScale s (Cells cells) = is_discrete s ≡ true
FitsScale s (Between d0 d1) = (is_discrete s ≡ false) × (d0 ≤ℤ d1) × (IsTrue (is_time s) → AreInstants (d0, d1))

-- the operation by which cells stand is an aggregate; the codes from 12 on are those of windows alone
abbrev pub is_order_built : Option DomainOrder → Bool
is_order_built None = true
is_order_built (Some order.True) = true
is_order_built (Some (order.Cells direction)) = true
is_order_built (Some (order.Operation direction op field)) = nat_lt op 12

-- what is built as the domain of a discrete scale
abbrev pub is_domain_built : Domain → Bool
is_domain_built (domain.Cells cells) = true
is_domain_built (domain.Signal e) = true
is_domain_built (domain.Field f) = is_order_built f.sort
is_domain_built (domain.Fields f) = is_order_built f.sort

-- a range of places: the width, the height or two numbers
abbrev pub has_ends : Range → Bool
has_ends range = is_some (ends_in true (pos 0) (pos 0) range)

-- a range of entries: a list that isn't empty, or one of the ranges that are colours or signs
abbrev pub has_entries : Range → Bool
has_entries (range.Cells []) = false
has_entries (range.Cells (cell ∷ cells)) = true
has_entries range.Width = false
has_entries range.Height = false
has_entries range.Category = true
has_entries range.Ramp = true
has_entries range.Symbol = true

-- the ranges that scales of a kind have: places, or a ramp, on a linear or a time scale; places on a band or a point scale; entries on an
-- ordinal scale
abbrev pub fits_range : ℕ → Range → Bool
fits_range kind range =
    if kind == linear || kind == time then is_ramp range || has_ends range
    else (if kind == band || kind == point then has_ends range
    else (kind == ordinal && has_entries range))

-- What is built: scales of each kind over a range that fits it, with a domain that is built where they are discrete.
abbrev pub is_built : VegaScale → Bool
is_built s = fits_range s.type_ s.range && (not (is_discrete s) || is_domain_built s.domain)

-- the ends that a range gives
abbrev pub given_ends : Range → Option (ℤ × ℤ)
given_ends (range.Cells cells) = two_numbers cells
given_ends range.Width = None
given_ends range.Height = None
given_ends range.Category = None
given_ends range.Ramp = None
given_ends range.Symbol = None

-- the numbers that a scale gives are those that specifications may have: paddings from 0 to 1, and ends of a range, which an ordinal scale
-- hasn't, from 0 to 10^11
pub record KeepsBounds (s : VegaScale) : Type 0 where
  pub both : IfSome s.padding IsPadding
  pub inner : IfSome s.padding_inner IsPadding
  pub outer : IfSome s.padding_outer IsPadding
  pub ends : is_ordinal s ≡ false → IfSome (given_ends s.range) IsRange

-- The rules at work.

the_codes_of_the_kinds : (index_of scale_kinds (codes "linear") ≡ Some linear) × (index_of scale_kinds (codes "time") ≡ Some time)
    × (index_of scale_kinds (codes "band") ≡ Some band) × (index_of scale_kinds (codes "point") ≡ Some point)
    × (index_of scale_kinds (codes "ordinal") ≡ Some ordinal)
the_codes_of_the_kinds = (refl, refl, refl, refl, refl)

the_last_aggregate : (index_of operations (codes "q3") ≡ Some 11) × (index_of operations (codes "row_number") ≡ Some 12)
the_last_aggregate = (refl, refl)

-- a whole number, in millionths
abbrev whole : ℕ → ℤ
whole n = pos (n * million)

-- a scale of a kind over null and a number
abbrev a_scale : ℕ → Range → Option Bool → VegaScale
a_scale kind range reverse = record {
  name = codes "s";
  type_ = kind;
  domain = domain.Cells (Null ∷ Number (whole 43) ∷ []);
  domain_raw = None;
  range = range;
  zero = Some true;
  nice = Some true;
  reverse = reverse;
  padding = Some (pos 100000);
  padding_inner = None;
  padding_outer = Some (pos 50000);
}

-- the scale in a plot of 60 by 200
abbrev in_a_plot : Values → VegaScale → Option Scale
in_a_plot values s = scale_of values no_lists (whole 60) (whole 200) s

a_linear_scale : (values : Values) → in_a_plot values (a_scale linear range.Height None)
    ≡ Some (Linear (whole 0) (whole 45) (whole 200) (whole 0))
unfolding step_of spaced floored ceiled floor_quotient
a_linear_scale values = refl

a_band_scale : (values : Values) → in_a_plot values (a_scale band range.Height (Some true))
    ≡ Some (Band (Null ∷ Number (whole 43) ∷ []) (pos 100000) (pos 50000) (whole 200) (whole 0))
a_band_scale values = refl

a_point_scale : (values : Values) → in_a_plot values (a_scale point range.Width None)
    ≡ Some (Point (Null ∷ Number (whole 43) ∷ []) (pos 50000) (whole 0) (whole 60))
a_point_scale values = refl

the_lengths_of_domains : (values : Values) → (domain_length values no_lists (a_scale band range.Width None) ≡ Some 2)
    × (domain_length values no_lists (a_scale linear range.Width None) ≡ Some 2)
the_lengths_of_domains values = (refl, refl)

a_domain_of_cells : (values : Values) → option_map domain_size (domain_of values no_lists (a_scale point range.Width None)) ≡ Some 2
a_domain_of_cells values = refl

a_domain_between_numbers : (values : Values)
    → domain_of values no_lists (a_scale linear range.Width None) ≡ Some (Between (whole 0) (whole 45))
unfolding step_of spaced floored ceiled floor_quotient
a_domain_between_numbers values = refl

a_time_scale : (values : Values) → in_a_plot values (a_scale time range.Width (Some true))
    ≡ Some (Time (whole 0) (whole 45) (whole 60) (whole 0))
unfolding step_of spaced floored ceiled floor_quotient
a_time_scale values = refl

a_ramp_turned_round : (values : Values) → in_a_plot values (a_scale linear range.Ramp (Some true))
    ≡ Some (Ramp false (whole 0) (whole 45) last_color first_color)
unfolding step_of spaced floored ceiled floor_quotient
a_ramp_turned_round values = refl

an_ordinal_scale : (values : Values) → in_a_plot values (a_scale ordinal range.Ramp None)
    ≡ Some (Ordinal (Null ∷ Number (whole 43) ∷ []) (Text (codes "#deebf7") ∷ Text (codes "#08519c") ∷ []))
unfolding rounded floor_quotient
an_ordinal_scale values = refl

an_ordinal_scale_turned_round : (values : Values) → in_a_plot values (a_scale ordinal range.Ramp (Some true))
    ≡ Some (Ordinal (Null ∷ Number (whole 43) ∷ []) (Text (codes "#08519c") ∷ Text (codes "#deebf7") ∷ []))
unfolding rounded floor_quotient
an_ordinal_scale_turned_round values = refl

-- without a word on it a linear scale takes in 0, a ramp too, and one of time doesn't; a linear one that says no doesn't
scales_and_zero : (takes_zero (record (a_scale linear range.Width None) { zero = None }) ≡ true)
    × (takes_zero (record (a_scale linear range.Ramp None) { zero = None }) ≡ true)
    × (takes_zero (record (a_scale time range.Width None) { zero = None }) ≡ false)
    × (takes_zero (record (a_scale linear range.Width None) { zero = Some false }) ≡ false)
    × (takes_zero (a_scale time range.Width None) ≡ true)
scales_and_zero = (refl, refl, refl, refl, refl)

ranges_that_do_not_fit : (is_built (a_scale ordinal range.Width None) ≡ false) × (is_built (a_scale band range.Ramp None) ≡ false)
    × (is_built (a_scale linear range.Category None) ≡ false) × (is_built (a_scale ordinal (range.Cells []) None) ≡ false)
    × (is_built (a_scale time range.Ramp None) ≡ true) × (is_built (a_scale ordinal range.Symbol None) ≡ true)
ranges_that_do_not_fit = (refl, refl, refl, refl, refl, refl)
