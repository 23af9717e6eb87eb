-- The rows of a unit come of those of its source, step by step: the transforms of the views round it, from the outermost in, and its own; texts of
-- temporal fields that become instants; bins; units of time; then, where it has them, the groups of its aggregates, and its stack.
use Rattle.std.specs.Prelude.{ℕ, Bool, List, ◌++◌, map}
use Rattle.vl_compose.specs.Units.{UnitAt}
use Rattle.vl_compose.specs.Views.{transforms_of}
use Rattle.plan_kit.specs.declared.steps.Step.{Step}
use Rattle.unit_plan.specs.Bins.{bin_steps, unit_steps}
use Rattle.unit_plan.specs.Groups.{group_steps}
use Rattle.unit_plan.specs.Reads.{read_steps}
use Rattle.unit_plan.specs.Stacks.{stack_steps}
use Rattle.unit_plan.specs.Transforms.{step_of}

-- the steps before a row stands for several, where it is known which names are selections
abbrev pub before : (List ℕ → Bool) → UnitAt → List Step
before is_selection unit = map (step_of is_selection) (transforms_of unit.round) ++ read_steps unit ++ bin_steps unit ++ unit_steps unit

-- the steps from there on
abbrev pub after : UnitAt → List Step
after unit = group_steps unit ++ stack_steps unit
