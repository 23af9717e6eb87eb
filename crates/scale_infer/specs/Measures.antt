-- Which of x and y is the measure of a unit. It is y; but it is x where x is continuous and y is discrete or absent, and also where
-- both are continuous and x alone is aggregated, or y alone is temporal, or y alone is binned. The other is the dimension. Each direction
-- goes by its first definition, its own before those of its conditions; one without a definition that has a scale is absent.
use Rattle.std.specs.Prelude.{◌≡◌, refl, ◌&&◌, ◌||◌, not, Bool, true, false, Option, Some, None}
use Rattle.vl_spec.specs.declared.definitions.Definition.{Definition}
use Rattle.vl_spec.specs.declared.definitions.Bin.TheVariants as bin
use Rattle.vl_spec.specs.declared.definitions.FieldType.TheVariants.{Quantitative, Temporal, Nominal}
use Rattle.scale_infer.specs.Types.{type_of, is_aggregated, is_binned, is_continuous, is_temporal, field_with}

-- whether this holds of the first definition alone
abbrev pub alone : (Definition → Bool) → Definition → Definition → Bool
alone test d other = test d && not (test other)

-- whether the first of two continuous directions, x and y, is the measure
abbrev pub x_wins : Definition → Definition → Bool
x_wins x y = alone is_aggregated x y || (alone (λ d. is_temporal (type_of d)) y x || alone is_binned y x)

-- whether x is the measure, where both have a definition
abbrev pub x_over : Definition → Definition → Bool
x_over x y = is_continuous (type_of x) && (not (is_continuous (type_of y)) || x_wins x y)

-- whether x is the measure of a unit, by the first definitions of x and of y
abbrev pub x_is_measure : Option Definition → Option Definition → Bool
x_is_measure None y = false
x_is_measure (Some x) None = is_continuous (type_of x)
x_is_measure (Some x) (Some y) = x_over x y

-- The rules at work.

-- numbers, sums, bins, instants and names
abbrev numbers : Definition
numbers = field_with (Some Quantitative) None None None None None

abbrev sums : Definition
sums = field_with None (Some 4) None None None None

abbrev bins : Definition
bins = field_with None None (Some (bin.Flag true)) None None None

abbrev instants : Definition
instants = field_with (Some Temporal) None None None None None

abbrev names : Definition
names = field_with (Some Nominal) None None None None None

two_numbers_by_y : x_is_measure (Some numbers) (Some numbers) ≡ false
two_numbers_by_y = refl

names_by_numbers : (x_is_measure (Some names) (Some numbers) ≡ false) × (x_is_measure (Some numbers) (Some names) ≡ true)
names_by_numbers = (refl, refl)

numbers_alone : (x_is_measure (Some numbers) None ≡ true) × (x_is_measure None (Some numbers) ≡ false)
numbers_alone = (refl, refl)

names_alone : x_is_measure (Some names) None ≡ false
names_alone = refl

sums_of_x : (x_is_measure (Some sums) (Some numbers) ≡ true) × (x_is_measure (Some sums) (Some sums) ≡ false)
sums_of_x = (refl, refl)

over_instants : (x_is_measure (Some numbers) (Some instants) ≡ true) × (x_is_measure (Some instants) (Some numbers) ≡ false)
over_instants = (refl, refl)

a_lying_histogram : (x_is_measure (Some sums) (Some bins) ≡ true) × (x_is_measure (Some numbers) (Some bins) ≡ true)
a_lying_histogram = (refl, refl)

a_standing_histogram : x_is_measure (Some bins) (Some sums) ≡ false
a_standing_histogram = refl

a_heatmap : x_is_measure (Some bins) (Some bins) ≡ false
a_heatmap = refl
