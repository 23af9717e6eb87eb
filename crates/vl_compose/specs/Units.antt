-- The units of a specification: its views of one mark.
use Rattle.std.specs.Prelude.{ℕ, Bool, true, false, Option, None, List, [], filter, map}
use Rattle.std.specs.Option.{option_and_then, option_map_or}
use Rattle.std.specs.List.{enumerate_from, fold, last_or}
use Rattle.vl_spec.specs.declared.channels.ChannelOf.{ChannelOf}
use Rattle.vl_spec.specs.declared.marks.Mark.{Mark}
use Rattle.vl_spec.specs.declared.spec.VlSpec.{VlSpec}
use Rattle.vl_normalize.specs.Channels.{channels_in, with_around}
use Rattle.vl_normalize.specs.Marks.{used}
use Rattle.vl_compose.specs.Rounds.{KindAt, AUnit, ALayer, AFacet, AJoined, ViewAt, Round, rounds_of}

-- the view with which a round ends
abbrev pub last_view : Round → Option ViewAt
last_view round = last_or None round

-- whether a view is a unit
abbrev pub is_unit : KindAt → Bool
is_unit (AUnit unit) = true
is_unit (ALayer encoding) = false
is_unit (AFacet facet) = false
is_unit (AJoined joined) = false

abbrev pub ends_in_unit : Round → Bool
ends_in_unit round = option_map_or (λ (v : ViewAt). is_unit v.kind) (last_view round) false

-- the mark of a view, if it has one
abbrev pub mark_in : KindAt → Option Mark
mark_in (AUnit unit) = unit.mark
mark_in (ALayer encoding) = None
mark_in (AFacet facet) = None
mark_in (AJoined joined) = None

abbrev pub mark_of : Round → Option Mark
mark_of round = option_and_then (λ (v : ViewAt). mark_in v.kind) (last_view round)

-- the channels that a view gives to itself or to the views in it: those of a unit and of a layer
abbrev pub own_channels : KindAt → List ChannelOf
own_channels (AUnit unit) = channels_in unit.encoding
own_channels (ALayer encoding) = channels_in encoding
own_channels (AFacet facet) = []
own_channels (AJoined joined) = []

-- all channels that stand at a view: its own, and behind them, from the inside out, those of the views round it that aren't there yet
abbrev pub channels_at : Round → List ChannelOf
channels_at round = fold (λ around (v : ViewAt). with_around (own_channels v.kind) around) [] round

-- A unit where it stands: its number among the units of the specification, from 0 in the order of the text; the views round it, from the top in, of
-- which the last is itself; its mark; and its channels, with those of the layers round it, as far as the mark has a use for them.
pub record UnitAt : Type 0 where
  pub number : ℕ
  pub round : Round
  pub mark : Option Mark
  pub channels : List ChannelOf

abbrev pub unit_at : ℕ → Round → UnitAt
unit_at number round = record {
  number = number;
  round = round;
  mark = mark_of round;
  channels = used (mark_of round) (channels_at round);
}

-- the units among some views, numbered from here on
abbrev pub units_among : ℕ → List Round → List UnitAt
units_among number rounds = map (λ (n : ℕ × Round). unit_at n.0 n.1) (enumerate_from number (filter ends_in_unit rounds))

-- the units of a specification
abbrev pub units_of : VlSpec → List UnitAt
units_of s = units_among 0 (rounds_of s)
