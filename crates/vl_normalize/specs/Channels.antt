-- The channels of views inside others.
use Rattle.std.specs.Prelude.{◌≡◌, refl, ℕ, ◌==◌, Bool, not, Option, Some, None, List, [], ◌∷◌, ◌++◌, filter, find}
use Rattle.std.specs.Option.{option_map_or, option_and_then}
use Rattle.std.specs.List.{list_any}
use Rattle.vl_spec.specs.declared.channels.Channel.{Channel}
use Rattle.vl_spec.specs.declared.channels.ChannelKind.{ChannelKind}
use Rattle.vl_spec.specs.declared.channels.ChannelKind.TheVariants as channel_kind
use Rattle.vl_spec.specs.declared.channels.ChannelOf.{ChannelOf}
use Rattle.vl_spec.specs.declared.channels.Encoding.{Encoding}
use Rattle.vl_normalize.specs.declared.codes.TheConstants.{X, Y, COLOR}

-- the channels of an encoding, none where there is none
abbrev pub channels_in : Option Encoding → List ChannelOf
channels_in encoding = option_map_or (λ (e : Encoding). e.channels) encoding []

-- whether one of some channels has this code
abbrev pub has_channel : List ChannelOf → ℕ → Bool
has_channel channels code = list_any (λ (c : ChannelOf). c.channel == code) channels

-- the channels of a view inside layers: its own, and behind them those round it that it doesn't have itself
abbrev pub with_around : List ChannelOf → List ChannelOf → List ChannelOf
with_around own around = own ++ filter (λ (c : ChannelOf). not (has_channel own c.channel)) around

-- the definition of a channel that shows one
abbrev pub one_shown : ChannelKind → Option Channel
one_shown (channel_kind.One c) = Some c
one_shown (channel_kind.Several cs) = None

-- the definition that the first channel of a code shows
abbrev pub shown : List ChannelOf → ℕ → Option Channel
shown channels code = option_and_then (λ (c : ChannelOf). one_shown c.shows) (find (λ (c : ChannelOf). c.channel == code) channels)

-- The rules at work.

-- a channel of a code
channel : ℕ → ChannelKind → ChannelOf
channel code shows = record { channel = code; shows = shows }

own_channels_win : (own outer other : ChannelKind) →
    with_around (channel X own ∷ []) (channel COLOR other ∷ channel X outer ∷ []) ≡ channel X own ∷ channel COLOR other ∷ []
unfolding channel
own_channels_win own outer other = refl

a_channel_that_is_absent_shows_nothing : (c : Channel) → shown (channel X (channel_kind.One c) ∷ []) Y ≡ None
unfolding channel
a_channel_that_is_absent_shows_nothing c = refl
