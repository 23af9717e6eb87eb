-- Bars. Along the dimension a bar goes over the band; over a bin or a unit of time from the lesser place plus 1 to the greater; else it is 5 wide
-- about its centre. Along the measure it goes between the ends of its stack; else from the place to that of `x2` or `y2`, or to the base: the place
-- of 0 where the domain holds it, else where the range begins.
use Rattle.std.specs.Prelude.{ℕ, Bool, true, false, List, [], ◌∷◌, is_some, if◌then◌else◌}
use Rattle.unit_plan.specs.declared.ends.End.TheVariants as end
use Rattle.plan_kit.specs.declared.marks.Along.{Along}
use Rattle.plan_kit.specs.declared.marks.SpotWay.{SpotWay}
use Rattle.unit_plan.specs.Ends.{base, ways, seconds}
use Rattle.unit_plan.specs.Lanes.{Lane}

-- the far end of a bar along the measure
abbrev pub bar_far : (List ℕ → Bool) → Lane → List SpotWay
bar_far is_selection lane =
    if is_some lane.stacked then ways is_selection end.StackStart lane else seconds is_selection false lane (base lane ∷ [])

abbrev pub bar_along : (List ℕ → Bool) → Lane → Along
bar_along is_selection lane =
    if lane.is_measure then record { near = ways is_selection end.Place lane; far = bar_far is_selection lane }
    else record { near = ways is_selection (end.Near true) lane; far = ways is_selection end.Far lane }
