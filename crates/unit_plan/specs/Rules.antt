-- Rules: along x from x to `x2`, or to x again without it, and over the whole plot where x is absent; along y alike. A cell stands in the middle of its band.
use Rattle.std.specs.Prelude.{ℕ, Bool, true, List, [], if◌then◌else◌}
use Rattle.unit_plan.specs.declared.ends.End.TheVariants as end
use Rattle.plan_kit.specs.declared.marks.Along.{Along}
use Rattle.unit_plan.specs.Branches.{is_empty}
use Rattle.unit_plan.specs.Ends.{ways, seconds}
use Rattle.unit_plan.specs.Lanes.{Lane}

abbrev pub rule_along : (List ℕ → Bool) → Lane → Along
rule_along is_selection lane = record {
  near = if is_empty lane.branches then [] else ways is_selection end.Centre lane;
  far = seconds is_selection true lane [];
}
