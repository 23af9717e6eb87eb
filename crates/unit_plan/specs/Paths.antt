-- Lines and areas: a path for each combination of the unaggregated fields of color, opacity, shape and detail, through its rows by the cells of the
-- dimension, with ties by key. A row stands in the middle of its band, at the start of its bin, else at its place. An area comes back along its base,
-- or along the start of its stack, or along `x2` or `y2` where that is given.
use Rattle.std.specs.Prelude.{ℕ, Bool, true, Option, List, [], ◌∷◌, is_some, if◌then◌else◌}
use Rattle.std.specs.Option.{option_and_then}
use Rattle.vl_compose.specs.Units.{UnitAt}
use Rattle.scale_infer.specs.Scales.{first_at}
use Rattle.unit_plan.specs.declared.ends.End.TheVariants as end
use Rattle.plan_kit.specs.declared.marks.Along.{Along}
use Rattle.plan_kit.specs.declared.marks.SpotWay.{SpotWay}
use Rattle.unit_plan.specs.Ends.{base, ways, seconds}
use Rattle.unit_plan.specs.Lanes.{Lane}
use Rattle.unit_plan.specs.Measures.{dimension_of}
use Rattle.unit_plan.specs.Stacks.{name_in}

abbrev pub line_along : (List ℕ → Bool) → Lane → Along
line_along is_selection lane = record { near = ways is_selection end.Centre lane; far = [] }

-- the way back of an area along the measure
abbrev pub area_far : (List ℕ → Bool) → Lane → List SpotWay
area_far is_selection lane =
    if is_some lane.stacked then ways is_selection end.StackCentre lane else seconds is_selection true lane (base lane ∷ [])

abbrev pub area_along : (List ℕ → Bool) → Lane → Along
area_along is_selection lane =
    record { near = ways is_selection end.Centre lane; far = if lane.is_measure then area_far is_selection lane else [] }

-- the name of the cells of the dimension
abbrev pub order_of : UnitAt → Option (List ℕ)
order_of unit = option_and_then (name_in (dimension_of unit)) (first_at unit (dimension_of unit))
