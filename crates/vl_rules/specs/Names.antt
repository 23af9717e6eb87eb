-- Under which names definitions are kept by selections, and by which they group rows.
use Rattle.std.specs.Prelude.{ℕ, ◌&&◌, Option, None, List, [], ◌++◌, is_none, option_to_list, if◌then◌else◌}
use Rattle.vl_spec.specs.declared.definitions.Definition.{Definition}
use Rattle.vl_spec.specs.declared.definitions.Definition.TheVariants as definition
use Rattle.vl_spec.specs.declared.definitions.FieldDefinition.{FieldDefinition}
use Rattle.scale_infer.specs.Types.{has_bins}
use Rattle.cell_names.specs.Names.{end_of_field, name_of}

-- the name of the cells of a definition of a channel
abbrev pub cells_name : ℕ → Definition → Option (List ℕ)
cells_name channel (definition.Value cell) = None
cells_name channel (definition.Datum d) = None
cells_name channel (definition.Field d) = name_of channel d

-- the name under which an interval keeps a field: over bins that of the field itself
abbrev pub field_extent : ℕ → FieldDefinition → Option (List ℕ)
field_extent channel d = if has_bins d.bin && is_none d.aggregate then d.field else name_of channel d

abbrev pub extent_name : ℕ → Definition → Option (List ℕ)
extent_name channel (definition.Value cell) = None
extent_name channel (definition.Datum d) = None
extent_name channel (definition.Field d) = field_extent channel d

-- the names by which a field groups rows: its own, and that of the ends of its bins or units of time; none where it is aggregated
abbrev pub field_groups : ℕ → FieldDefinition → List (List ℕ)
field_groups channel d = if is_none d.aggregate then option_to_list (name_of channel d) ++ option_to_list (end_of_field channel d) else []

abbrev pub definition_groups : ℕ → Definition → List (List ℕ)
definition_groups channel (definition.Value cell) = []
definition_groups channel (definition.Datum d) = []
definition_groups channel (definition.Field d) = field_groups channel d
