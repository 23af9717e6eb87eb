-- A direction of a unit, x or y: what its two ends are made of. `x2` and `y2` show the second end on the scale of x and y.
use Rattle.std.specs.Prelude.{ℕ, ◌==◌, Bool, Option, Some, None, List, [], if◌then◌else◌}
use Rattle.std.specs.Option.{option_map_or, option_and_then}
use Rattle.vl_normalize.specs.Channels.{shown}
use Rattle.vl_normalize.specs.declared.codes.TheConstants.{X, Y, X2, Y2}
use Rattle.vl_spec.specs.declared.channels.ChannelOf.{ChannelOf}
use Rattle.vl_compose.specs.Units.{UnitAt}
use Rattle.unit_plan.specs.declared.seen.ScaleSeen.{ScaleSeen}
use Rattle.unit_plan.specs.declared.stacks.Stacked.{Stacked}
use Rattle.unit_plan.specs.Branches.{Branch, branches_of}
use Rattle.unit_plan.specs.Measures.{measure_of}
use Rattle.unit_plan.specs.Seen.{seen_at}
use Rattle.unit_plan.specs.Stacks.{stack_of}

pub record Lane : Type 0 where
  -- the code of its channel, and that of the channel of the second end
  pub channel : ℕ
  pub second : ℕ
  -- its scale
  pub scale : Option ScaleSeen
  -- whether it is the measure
  pub is_measure : Bool
  -- what is stacked along it
  pub stacked : Option Stacked
  -- what its channel shows, and that of the second end
  pub branches : List Branch
  pub seconds : List Branch

-- the branches of the channel of a code among some channels
abbrev pub branches_at : List ChannelOf → ℕ → List Branch
branches_at channels code = option_map_or branches_of (shown channels code) []

-- what is stacked, where it is along this channel
abbrev pub stacked_along : ℕ → Stacked → Option Stacked
stacked_along channel s = if s.channel == channel then Some s else None

abbrev pub lane_at : UnitAt → List ScaleSeen → ℕ → ℕ → Lane
lane_at unit scales channel second = record {
  channel = channel;
  second = second;
  scale = seen_at scales channel;
  is_measure = measure_of unit == channel;
  stacked = option_and_then (stacked_along channel) (stack_of unit);
  branches = branches_at unit.channels channel;
  seconds = branches_at unit.channels second;
}

-- the directions of a unit
abbrev pub across : UnitAt → List ScaleSeen → Lane
across unit scales = lane_at unit scales X X2

abbrev pub down : UnitAt → List ScaleSeen → Lane
down unit scales = lane_at unit scales Y Y2
