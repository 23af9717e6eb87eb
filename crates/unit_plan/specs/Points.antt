-- Points, circles, squares and texts stand at the centre: the middle of the band, the middle of a bin, else the place. Circles and squares are signs
-- by their type; a point is the sign that `shape` says, without it a circle.
use Rattle.std.specs.Prelude.{ℕ, Bool, List, []}
use Rattle.unit_plan.specs.declared.ends.End.TheVariants as end
use Rattle.plan_kit.specs.declared.marks.Along.{Along}
use Rattle.unit_plan.specs.Ends.{ways}
use Rattle.unit_plan.specs.Lanes.{Lane}

abbrev pub point_along : (List ℕ → Bool) → Lane → Along
point_along is_selection lane = record { near = ways is_selection end.Middle lane; far = [] }
