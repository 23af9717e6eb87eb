-- What contracts see of directions that are lent.
use Rattle.unit_plan.specs.declared.lanes.LaneHere.{LaneHere}
use Rattle.unit_plan.specs.Lanes.{Lane}
use Rattle.unit_plan.specs.inner.Lent.{branches_shown}

abbrev pub lane_shown : LaneHere → Lane
lane_shown l = record {
  channel = l.channel;
  second = l.second;
  scale = l.scale;
  is_measure = l.is_measure;
  stacked = l.stacked;
  branches = branches_shown l.branches;
  seconds = branches_shown l.seconds;
}
