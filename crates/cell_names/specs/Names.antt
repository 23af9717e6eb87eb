-- The names of new cells in the rows of a unit. Those of a bin are `bin_maxbins_N_f`, or `bin_step_S_f` where the width of bins is given, and
-- the same with `_end`; those of a unit of time are `unit_f` and `unit_f_end`; that of an aggregate is `op_f`, and of a count `__count`; those of a stack are
-- the name of what is stacked with `_start` and with `_end`. Without `maxbins` there are at most 6 bins for row, column and shape, else 10. Of an aggregate,
-- bins and a unit of time in one definition the first of these acts, and names the cells. A definition without a field names none, but for a count.
use Rattle.std.specs.Prelude.{◌≡◌, refl, ℕ, ◌*◌, ◌==◌, ◌||◌, ℤ, pos, Bool, true, false, Option, Some, None, List, [], ◌++◌, codes}
use Rattle.std.specs.Prelude.{slice_get, unwrap_or, is_some, if◌then◌else◌}
use Rattle.std.specs.Option.{option_map, option_map_or}
use Rattle.fixed_num.specs.Number.{million}
use Rattle.fixed_num.specs.Decimal.{spelling, size_spelling, fraction_spelling, fraction_digits}
use Rattle.std.specs.Fmt.{digits}
use Rattle.case_table.specs.Names.{operations, time_units}
use Rattle.vl_spec.specs.declared.definitions.Bin.{Bin}
use Rattle.vl_spec.specs.declared.definitions.Bin.TheVariants as bin
use Rattle.vl_spec.specs.declared.definitions.BinSettings.{BinSettings}
use Rattle.vl_spec.specs.declared.definitions.FieldDefinition.{FieldDefinition}
use Rattle.vl_normalize.specs.declared.codes.TheConstants.{X, SHAPE, ROW, COLUMN}
use Rattle.scale_infer.specs.Types.{has_bins}
use Rattle.cell_names.specs.declared.names.TheConstants.{COUNT}

-- the entry at a place of a table of names; empty where there is none
abbrev pub name_in : List (List ℕ) → ℕ → List ℕ
name_in table code = unwrap_or (slice_get table code) []

-- two words with `_` between them
abbrev pub joined_name : List ℕ → List ℕ → List ℕ
joined_name first second = first ++ codes "_" ++ second

-- the end that belongs to a start
abbrev pub end_name : List ℕ → List ℕ
end_name start = start ++ codes "_end"

-- how many bins a channel has at most where it isn't said
abbrev pub most_bins : ℕ → ℤ
most_bins channel = if channel == ROW || channel == COLUMN || channel == SHAPE then pos (6 * million) else pos (10 * million)

-- what `bin` says besides whether there are bins
abbrev pub bin_settings : Bin → BinSettings
bin_settings (bin.Flag flag) = record { maxbins = None; step = None }
bin_settings (bin.Settings s) = s

-- how the bins of a channel are told apart in names
abbrev pub bin_words : ℕ → BinSettings → List ℕ
bin_words channel s =
    option_map_or (λ step. codes "bin_step_" ++ spelling step) s.step (codes "bin_maxbins_" ++ spelling (unwrap_or s.maxbins (most_bins channel)))

abbrev pub bin_name : ℕ → Bin → List ℕ → List ℕ
bin_name channel b field = joined_name (bin_words channel (bin_settings b)) field

abbrev pub unit_name : ℕ → List ℕ → List ℕ
unit_name unit field = joined_name (name_in time_units unit) field

-- the name of an aggregate
abbrev pub op_name : ℕ → Option (List ℕ) → Option (List ℕ)
op_name op field = if op == COUNT then Some (codes "__count") else option_map (joined_name (name_in operations op)) field

-- the bins of a definition, where they act
abbrev pub bins_in : FieldDefinition → Option Bin
bins_in d = if has_bins d.bin then d.bin else None

-- what names a field that isn't aggregated
abbrev pub plain_name : ℕ → FieldDefinition → List ℕ → List ℕ
plain_name channel d field =
    option_map_or (λ b. bin_name channel b field) (bins_in d) (option_map_or (λ unit. unit_name unit field) d.time_unit field)

-- the name of the cells of a definition by a field of a channel; of bins and units of time that of the start
abbrev pub name_of : ℕ → FieldDefinition → Option (List ℕ)
name_of channel d = option_map_or (λ op. op_name op d.field) d.aggregate (option_map (plain_name channel d) d.field)

-- whether its cells are the starts of bins or units of time
abbrev pub has_end : FieldDefinition → Bool
has_end d = if is_some d.aggregate then false else has_bins d.bin || is_some d.time_unit

-- the name of the ends of its bins or units of time
abbrev pub end_of_field : ℕ → FieldDefinition → Option (List ℕ)
end_of_field channel d = if has_end d then option_map end_name (name_of channel d) else None

-- the names of where a stacked cell begins and ends
abbrev pub stack_start : List ℕ → List ℕ
stack_start name = name ++ codes "_start"

abbrev pub stack_end : List ℕ → List ℕ
stack_end name = end_name name

-- The rules at work.

-- a definition by the field `a` with an aggregate, bins and a unit of time
abbrev of_a : Option ℕ → Option Bin → Option ℕ → FieldDefinition
of_a op b unit = record {
  field = Some (codes "a");
  type_ = None;
  aggregate = op;
  bin = b;
  time_unit = unit;
  title = None;
  sort = None;
  scale = None;
  stack = None;
  axis = None;
  legend = None;
  header = None;
  format = None;
  columns = None;
  spacing = None;
}

a_field_has_its_name : name_of X (of_a None None None) ≡ Some (codes "a")
a_field_has_its_name = refl

ten_bins : (name_of X (of_a None (Some (bin.Flag true)) None) ≡ Some (codes "bin_maxbins_10_a"))
    × (end_of_field X (of_a None (Some (bin.Flag true)) None) ≡ Some (codes "bin_maxbins_10_a_end"))
unfolding spelling size_spelling fraction_spelling fraction_digits digits
ten_bins = (refl, refl)

six_bins_for_shapes : name_of SHAPE (of_a None (Some (bin.Flag true)) None) ≡ Some (codes "bin_maxbins_6_a")
unfolding spelling size_spelling fraction_spelling fraction_digits digits
six_bins_for_shapes = refl

bins_of_a_width : name_of X (of_a None (Some (bin.Settings (record { maxbins = Some (pos 3000000); step = Some (pos 500000) }))) (Some 0))
    ≡ Some (codes "bin_step_0.5_a")
unfolding spelling size_spelling fraction_spelling fraction_digits digits
bins_of_a_width = refl

no_bins_by_false : name_of X (of_a None (Some (bin.Flag false)) (Some 3)) ≡ Some (codes "yearmonth_a")
no_bins_by_false = refl

a_mean_before_bins : (name_of X (of_a (Some 5) (Some (bin.Flag true)) None) ≡ Some (codes "mean_a"))
    × (end_of_field X (of_a (Some 5) (Some (bin.Flag true)) None) ≡ None)
a_mean_before_bins = (refl, refl)

a_count_has_one_name : name_of X (of_a (Some 0) None None) ≡ Some (codes "__count")
a_count_has_one_name = refl
