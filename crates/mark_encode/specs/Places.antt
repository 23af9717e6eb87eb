-- Where marks that have one place stand along x or y. An outer None stands for a number out of range, an inner one for a place that is lacking.
use Rattle.std.specs.Prelude.{ℤ, false, Option, Some, List}
use Rattle.fixed_num.specs.Ranges.{◌>>=◌}
use Rattle.cell_value.specs.Datum.{CellAt}
use Rattle.expr_eval.specs.Values.{Values}
use Rattle.mark_shapes.specs.Places.{place_of}
use Rattle.mark_encode.specs.declared.channels.ChannelName.{ChannelName}
use Rattle.mark_encode.specs.Channels.{ScaledValue}
use Rattle.mark_encode.specs.Values.{number_shown}

-- the values in the channels of one direction: of the near end and of the middle
pub record PlaceValues : Type 0 where
  pub near : List ScaledValue
  pub middle : List ScaledValue

-- the channels of a mark by their names, put together
abbrev pub places_named : (ChannelName → List ScaledValue) → ChannelName → ChannelName → PlaceValues
places_named channels near middle = record { near = channels near; middle = channels middle }

-- where a mark stands along one direction for a row
abbrev pub place_for : CellAt → Values → PlaceValues → Option (Option ℤ)
place_for cells values place = do
  n ← number_shown false cells values place.near
  m ← number_shown false cells values place.middle
  Some (place_of n m)
