-- The definitions of conditions.
use Rattle.std.specs.Prelude.{List}
use Rattle.vl_spec.specs.declared.channels.Condition.{Condition, out-Condition}
use Rattle.vl_spec.specs.declared.channels.Conditions.{Conditions, fold-Conditions}
use Rattle.vl_spec.specs.declared.definitions.Definition.{Definition}
use Rattle.vl_compose.specs.Definitions.{channel_here, conditions_here, condition_here, definitions_of}

-- those of conditions that bear a scale
abbrev pub of_conditions : Conditions → List Definition
of_conditions = fold-Conditions (List Definition) (List Definition) (List Definition) conditions_here channel_here condition_here

-- those of one condition
abbrev pub of_condition : Condition → List Definition
of_condition c = definitions_of (out-Condition c).shows
