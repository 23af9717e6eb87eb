-- The units of a specification as it is written: its views of one mark. A line with points is one such view here, and a unit whose channels
-- part its rows stands in no faceted view.
use Rattle.std.specs.Prelude.{Option, List, filter, map, take}
use Rattle.vl_spec.specs.declared.channels.ChannelOf.{ChannelOf}
use Rattle.vl_spec.specs.declared.marks.Mark.{Mark}
use Rattle.vl_spec.specs.declared.spec.VlSpec.{VlSpec}
use Rattle.vl_compose.specs.Rounds.{Round, rounds_of}
use Rattle.vl_compose.specs.Units.{channels_at, ends_in_unit, mark_of}
use Rattle.vl_trails.specs.Trails.{Trail}
use Rattle.vl_rules.specs.declared.marked.TheConstants.{MOST_UNITS}
use Rattle.vl_rules.specs.Leads.{trail_of}

-- A unit where it stands: the views round it, from the top in, of which the last is itself; the steps that lead to it; its mark; and all
-- channels that stand at it, its own and behind them those of the layers round it.
pub record MarkedAt : Type 0 where
  pub round : Round
  pub trail : Trail
  pub mark : Option Mark
  pub channels : List ChannelOf

abbrev pub marked_at : Round → MarkedAt
marked_at round = record {
  round = round;
  trail = trail_of round;
  mark = mark_of round;
  channels = channels_at round;
}

-- those among some views
abbrev pub marked_among : List Round → List MarkedAt
marked_among rounds = map marked_at (filter ends_in_unit rounds)

-- the units of a specification, in the order of the text
abbrev pub marked : VlSpec → List MarkedAt
marked s = marked_among (rounds_of s)

-- Those that are judged. What stands behind as many as there may be passes a limit, and counts as absent.
abbrev pub judged : VlSpec → List MarkedAt
judged s = take MOST_UNITS (marked s)
