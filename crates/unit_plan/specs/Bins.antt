-- Bins and units of time of definitions, as steps: those that act. Bins take in all numbers of the rows, where the steps stand.
use Rattle.std.specs.Prelude.{ℕ, Option, Some, None, List, [], ◌∷◌, flat_map, is_some, unwrap_or, if◌then◌else◌}
use Rattle.std.specs.Option.{option_map_or}
use Rattle.plain_rows.specs.declared.transforms.BinOf.{BinOf}
use Rattle.plain_rows.specs.declared.transforms.TimeOf.{TimeOf}
use Rattle.vl_spec.specs.declared.definitions.Bin.{Bin}
use Rattle.vl_spec.specs.declared.definitions.FieldDefinition.{FieldDefinition}
use Rattle.vl_compose.specs.Units.{UnitAt}
use Rattle.plan_kit.specs.declared.steps.Step.{Step}
use Rattle.plan_kit.specs.declared.steps.Step.TheVariants as step
use Rattle.cell_names.specs.Names.{most_bins, bin_settings, bin_name, unit_name, end_name, bins_in}
use Rattle.unit_plan.specs.Shows.{ShownAt, shows_of, field_in}
use Rattle.unit_plan.specs.Transforms.{count_in}

-- the bins of a field of a channel
abbrev pub bin_of : ℕ → Bin → List ℕ → BinOf
bin_of channel b field = record {
  field = field;
  extent = None;
  step = (bin_settings b).step;
  maxbins = count_in (unwrap_or (bin_settings b).maxbins (most_bins channel));
  out = bin_name channel b field;
  out_end = end_name (bin_name channel b field);
}

-- its units of time
abbrev pub unit_of : ℕ → List ℕ → TimeOf
unit_of unit field = record { field = field; unit = unit; out = unit_name unit field; out_end = end_name (unit_name unit field) }

-- those of a definition that may lack bins, or a field
abbrev pub bins_by : ℕ → Option Bin → Option (List ℕ) → List Step
bins_by channel None field = []
bins_by channel (Some b) None = []
bins_by channel (Some b) (Some field) = step.Bin (bin_of channel b field) ∷ []

abbrev pub units_by : Option Bin → Option ℕ → Option (List ℕ) → List Step
units_by (Some b) unit field = []
units_by None None field = []
units_by None (Some unit) None = []
units_by None (Some unit) (Some field) = step.Unit (unit_of unit field) ∷ []

-- the bins of a definition, where they act: no aggregate does
abbrev pub bins_of : ℕ → FieldDefinition → List Step
bins_of channel d = if is_some d.aggregate then [] else bins_by channel (bins_in d) d.field

-- its units of time, where they act: neither an aggregate nor bins do
abbrev pub units_of_time : FieldDefinition → List Step
units_of_time d = if is_some d.aggregate then [] else units_by (bins_in d) d.time_unit d.field

abbrev pub bin_cuts : ShownAt → List Step
bin_cuts s = option_map_or (bins_of s.channel) (field_in s.shows) []

abbrev pub unit_cuts : ShownAt → List Step
unit_cuts s = option_map_or units_of_time (field_in s.shows) []

-- first the bins of all definitions of a unit, then their units of time
abbrev pub bin_steps : UnitAt → List Step
bin_steps unit = flat_map bin_cuts (shows_of unit)

abbrev pub unit_steps : UnitAt → List Step
unit_steps unit = flat_map unit_cuts (shows_of unit)
