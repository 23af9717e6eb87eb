-- The cell that a definition shows in each row of a unit: that of a field, under its name in these rows; or one that is written. A definition
-- without a name shows null.
use Rattle.std.specs.Prelude.{ℕ, Option, Some, None, List}
use Rattle.cell_value.specs.declared.cell.Cell.TheVariants.{Null}
use Rattle.vl_spec.specs.declared.definitions.Definition.{Definition}
use Rattle.vl_spec.specs.declared.definitions.Definition.TheVariants as definition
use Rattle.plan_kit.specs.declared.cells.CellOf.{CellOf}
use Rattle.plan_kit.specs.declared.cells.CellOf.TheVariants.{Field, Written}
use Rattle.cell_names.specs.Names.{name_of, end_of_field}

abbrev pub cell_of_name : Option (List ℕ) → CellOf
cell_of_name None = Written Null
cell_of_name (Some name) = Field name

abbrev pub cell_of : ℕ → Definition → CellOf
cell_of channel (definition.Value cell) = Written cell
cell_of channel (definition.Datum d) = Written d.datum
cell_of channel (definition.Field d) = cell_of_name (name_of channel d)

-- the name of the ends of the bins or units of time that it shows, if it shows their starts
abbrev pub end_of : ℕ → Definition → Option (List ℕ)
end_of channel (definition.Value cell) = None
end_of channel (definition.Datum d) = None
end_of channel (definition.Field d) = end_of_field channel d
