-- Rects, each direction by itself: from the place to that of `x2` or `y2` where that is given; else between the ends of a stack; else over the band, the bin or
-- the unit of time, or 5 wide about the centre.
use Rattle.std.specs.Prelude.{ℕ, Bool, false, None, List, [], ◌∷◌, if◌then◌else◌}
use Rattle.unit_plan.specs.declared.ends.End.TheVariants as end
use Rattle.plan_kit.specs.declared.marks.Along.{Along}
use Rattle.plan_kit.specs.declared.marks.Spot.TheVariants.{Nowhere}
use Rattle.unit_plan.specs.Branches.{is_empty}
use Rattle.unit_plan.specs.Ends.{always, ways, seconds}
use Rattle.unit_plan.specs.Lanes.{Lane}

abbrev pub rect_along : (List ℕ → Bool) → Lane → Along
rect_along is_selection lane =
    if is_empty lane.seconds then record { near = ways is_selection (end.Near false) lane; far = ways is_selection end.Far lane }
    else record { near = ways is_selection end.PlaceOrCentre lane; far = seconds is_selection false lane (always Nowhere None ∷ []) }
