-- The measure and the dimension of a unit, and the type that a definition has in it. `x2` and `y2` without a type have that of the first definition of x
-- or y that has a scale.
use Rattle.std.specs.Prelude.{ℕ, ◌==◌, Bool, Option, None, unwrap_or, if◌then◌else◌}
use Rattle.std.specs.Option.{option_map}
use Rattle.vl_normalize.specs.declared.codes.TheConstants.{X, Y, X2, Y2}
use Rattle.vl_spec.specs.declared.definitions.Definition.{Definition}
use Rattle.vl_spec.specs.declared.definitions.Definition.TheVariants as definition
use Rattle.vl_spec.specs.declared.definitions.FieldType.{FieldType}
use Rattle.vl_compose.specs.Units.{UnitAt}
use Rattle.scale_infer.specs.Measures.{x_is_measure}
use Rattle.scale_infer.specs.Scales.{first_at}
use Rattle.scale_infer.specs.Types.{type_of}

-- whether x is the measure of a unit; else y is
abbrev pub measures_x : UnitAt → Bool
measures_x unit = x_is_measure (first_at unit X) (first_at unit Y)

-- the channel of the measure, and that of the dimension
abbrev pub measure_by : Bool → ℕ
measure_by along_x = if along_x then X else Y

abbrev pub dimension_by : Bool → ℕ
dimension_by along_x = if along_x then Y else X

abbrev pub measure_of : UnitAt → ℕ
measure_of unit = measure_by (measures_x unit)

abbrev pub dimension_of : UnitAt → ℕ
dimension_of unit = dimension_by (measures_x unit)

-- the type that a definition says
abbrev pub type_said : Definition → Option FieldType
type_said (definition.Value cell) = None
type_said (definition.Datum d) = d.type_
type_said (definition.Field d) = d.type_

-- the type of the first definition of a channel that has a scale, if there is one
abbrev pub first_type : UnitAt → ℕ → Option FieldType
first_type unit channel = option_map type_of (first_at unit channel)

-- the type of a second end, by that of the first
abbrev pub second_type : Option FieldType → Definition → FieldType
second_type first d = unwrap_or (type_said d) (unwrap_or first (type_of d))

-- the type of a definition of a channel, by those of x and y
abbrev pub type_in : Option FieldType → Option FieldType → ℕ → Definition → FieldType
type_in x y channel d = if channel == X2 then second_type x d else (if channel == Y2 then second_type y d else type_of d)
