-- Texts of temporal fields become instants, or null where they are none; other cells stay. The field of a definition is temporal where its type is, and
-- also where it has a unit of time, whatever its type. It stands once for each definition that shows it, which changes nothing the second time.
use Rattle.std.specs.Prelude.{ℕ, ◌||◌, Bool, Option, Some, None, List, [], ◌∷◌, false, flat_map, is_some, if◌then◌else◌}
use Rattle.std.specs.Option.{option_and_then, option_map_or}
use Rattle.expr_syntax.specs.declared.expr.Expr.{Expr}
use Rattle.expr_syntax.specs.declared.expr.Expr.TheVariants as expr
use Rattle.vl_normalize.specs.declared.codes.TheConstants.{X, Y}
use Rattle.vl_spec.specs.declared.definitions.Definition.{Definition}
use Rattle.vl_spec.specs.declared.definitions.FieldDefinition.{FieldDefinition}
use Rattle.vl_spec.specs.declared.definitions.FieldType.{FieldType}
use Rattle.vl_compose.specs.Units.{UnitAt}
use Rattle.scale_infer.specs.Types.{is_temporal}
use Rattle.unit_plan.specs.declared.codes.TheConstants.{IS_STRING, TO_DATE}
use Rattle.plan_kit.specs.declared.steps.Step.{Step}
use Rattle.plan_kit.specs.declared.steps.Step.TheVariants as step
use Rattle.unit_plan.specs.Measures.{first_type, type_in}
use Rattle.unit_plan.specs.Shows.{ShownAt, shows_of, field_in}

-- the instant of a text, and another cell as it is
abbrev pub read_expr : List ℕ → Expr
read_expr field = expr.Choose (expr.Call IS_STRING (expr.Field field ∷ [])) (expr.Call TO_DATE (expr.Field field ∷ [])) (expr.Field field)

-- whether a definition has a unit of time
abbrev pub has_time_unit : Definition → Bool
has_time_unit d = option_map_or (λ (f : FieldDefinition). is_some f.time_unit) (field_in d) false

-- whether the field of a definition is temporal, by the types of x and y
abbrev pub is_read : Option FieldType → Option FieldType → ShownAt → Bool
is_read x y s = has_time_unit s.shows || is_temporal (type_in x y s.channel s.shows)

-- the field that a definition names
abbrev pub field_of : Definition → Option (List ℕ)
field_of d = option_and_then (λ (f : FieldDefinition). f.field) (field_in d)

abbrev pub read_of : Option (List ℕ) → List Step
read_of None = []
read_of (Some field) = step.Calculate (read_expr field) field ∷ []

abbrev pub reads : Option FieldType → Option FieldType → ShownAt → List Step
reads x y s = if is_read x y s then read_of (field_of s.shows) else []

abbrev pub read_steps : UnitAt → List Step
read_steps unit = flat_map (reads (first_type unit X) (first_type unit Y)) (shows_of unit)
