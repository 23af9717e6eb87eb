-- Where marks stand along x or y. An outer None stands for a number out of range, an inner one for a place that is lacking.
use Rattle.std.specs.Prelude.{true, false, Option, List}
use Rattle.fixed_num.specs.Ranges.{◌>>=◌}
use Rattle.cell_value.specs.Datum.{CellAt}
use Rattle.expr_eval.specs.Values.{Values}
use Rattle.mark_shapes.specs.declared.spans.Span.{Span}
use Rattle.mark_shapes.specs.Spans.{span_of}
use Rattle.mark_encode.specs.Channels.{ScaledValue}
use Rattle.mark_encode.specs.Values.{number_shown}

-- the values in the channels of one direction: of its near and its far end, its middle and its size
pub record AlongValues : Type 0 where
  pub near : List ScaledValue
  pub far : List ScaledValue
  pub middle : List ScaledValue
  pub size : List ScaledValue

-- where a mark stands along one direction for a row
abbrev pub span_for : CellAt → Values → AlongValues → Option (Option Span)
span_for cells values along = do
  n ← number_shown false cells values along.near
  f ← number_shown true cells values along.far
  m ← number_shown false cells values along.middle
  s ← number_shown false cells values along.size
  span_of n f m s
