-- Rules. An outer None stands for a number out of range, an inner one for a place that is lacking.
use Rattle.std.specs.Prelude.{true, false, ℤ, Option, Some, List}
use Rattle.fixed_num.specs.Ranges.{◌>>=◌}
use Rattle.cell_value.specs.Datum.{CellAt}
use Rattle.expr_eval.specs.Values.{Values}
use Rattle.scene_tree.specs.declared.shape.Shape.{Shape}
use Rattle.mark_shapes.specs.declared.rules.Ends.{Ends}
use Rattle.mark_shapes.specs.Rules.{ends_of, line_between}
use Rattle.mark_encode.specs.declared.channels.ChannelName.{ChannelName}
use Rattle.mark_encode.specs.declared.channels.ChannelName.TheVariants as name
use Rattle.mark_encode.specs.Channels.{ScaledValue}
use Rattle.mark_encode.specs.Values.{number_shown}

-- the values in the channels of one direction: of its near and its far end; and how long the plot is
pub record EndValues : Type 0 where
  pub near : List ScaledValue
  pub far : List ScaledValue
  pub whole : ℤ

-- where a rule begins and ends along one direction for a row
abbrev pub ends_for : CellAt → Values → EndValues → Option (Option Ends)
ends_for cells values ends = do
  n ← number_shown false cells values ends.near
  f ← number_shown true cells values ends.far
  Some (ends_of ends.whole n f)

-- the values in the channels of a rule, with the size of its plot
pub record RuleValues : Type 0 where
  pub across : EndValues
  pub down : EndValues

-- the channels of a mark by their names, put together
abbrev pub ends_named : (ChannelName → List ScaledValue) → ChannelName → ChannelName → ℤ → EndValues
ends_named channels near far whole = record { near = channels near; far = channels far; whole = whole }

abbrev pub rule_values_of : ℤ → ℤ → (ChannelName → List ScaledValue) → RuleValues
rule_values_of width height channels =
    record { across = ends_named channels name.X name.X2 width; down = ends_named channels name.Y name.Y2 height }

-- the rule of a row
abbrev pub rule_for : RuleValues → CellAt → Values → Option (Option Shape)
rule_for channels cells values = do
  x ← ends_for cells values channels.across
  y ← ends_for cells values channels.down
  Some (line_between x y)
