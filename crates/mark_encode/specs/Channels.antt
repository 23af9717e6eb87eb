-- What a mark encodes in its channels.
use Rattle.std.specs.Prelude.{◌≡◌, refl, ℕ, pos, Bool, true, false, not, Option, Some, None, codes}
use Rattle.std.specs.Prelude.{List, [], ◌∷◌, ◌++◌, map, filter, find}
use Rattle.std.specs.Option.{option_map, option_map_or, option_or}
use Rattle.std.specs.List.{list_any}
use Rattle.std.specs.Str.{bytes_eq}
use Rattle.fixed_num.specs.Ranges.{◌>>=◌}
use Rattle.scale_kit.specs.declared.scale.Scale.{Scale}
use Rattle.scale_kit.specs.declared.scale.Scale.TheVariants.{Linear}
use Rattle.scale_kit.specs.declared.scale.ScaleIn.{ScaleIn}
use Rattle.scale_kit.specs.declared.scale.ScaleSet.{ScaleSet}
use Rattle.vega_spec.specs.declared.encode.Encode.{Encode}
use Rattle.vega_spec.specs.declared.encode.Channels.{Channels}
use Rattle.vega_spec.specs.declared.encode.Channel.{Channel}
use Rattle.vega_spec.specs.declared.encode.Channel.TheVariants.{One, Several}
use Rattle.vega_spec.specs.declared.encode.ChannelValue.{ChannelValue}
use Rattle.mark_encode.specs.declared.channels.ChannelName.{ChannelName}
use Rattle.mark_encode.specs.declared.channels.ChannelName.TheVariants as name

-- the channel of a name in an encode set
abbrev pub channel_named : ChannelName → Channels → Option Channel
channel_named name.X set = set.x
channel_named name.X2 set = set.x2
channel_named name.Xc set = set.xc
channel_named name.Width set = set.width
channel_named name.Y set = set.y
channel_named name.Y2 set = set.y2
channel_named name.Yc set = set.yc
channel_named name.Height set = set.height
channel_named name.Fill set = set.fill
channel_named name.Stroke set = set.stroke
channel_named name.StrokeWidth set = set.stroke_width
channel_named name.Opacity set = set.opacity
channel_named name.Size set = set.size
channel_named name.Shape set = set.shape
channel_named name.Text set = set.text
channel_named name.Align set = set.align
channel_named name.Baseline set = set.baseline
channel_named name.Dx set = set.dx
channel_named name.Dy set = set.dy
channel_named name.FontSize set = set.font_size

-- the channel of a name in one of the encode sets, if that is there
abbrev pub channel_in : ChannelName → Option Channels → Option Channel
channel_in n set = set >>= channel_named n

-- the channel of a name in the encode sets of a mark: that of the update set wins
abbrev pub encoded : Option Encode → ChannelName → Option Channel
encoded sets n = sets >>= λ (sets : Encode). option_or (channel_in n sets.update) (channel_in n sets.enter)

-- the values of a channel, in order
abbrev pub values_in : Channel → List ChannelValue
values_in (One value) = value ∷ []
values_in (Several values) = values

-- a value of a channel with the scale that it names
pub record ScaledValue : Type 0 where
  pub value : ChannelValue
  pub scale : Option Scale

-- the first scale of a name
abbrev pub scale_named : ScaleSet → List ℕ → Option Scale
scale_named set n = option_map (λ (s : ScaleIn). s.scale) (find (λ (s : ScaleIn). bytes_eq s.name n) set.scales)

-- whether one of the scales has the name
abbrev pub is_named : ScaleSet → List ℕ → Bool
is_named set n = list_any (λ (s : ScaleIn). bytes_eq s.name n) set.scales

-- the scales of an object, and those round it of other names
abbrev pub scales_within : ScaleSet → ScaleSet → ScaleSet
scales_within own outer = record { scales = own.scales ++ filter (λ (s : ScaleIn). not (is_named own s.name)) outer.scales }

-- the scale of a name, if one is given
abbrev pub scale_for : ScaleSet → Option (List ℕ) → Option Scale
scale_for set n = n >>= scale_named set

abbrev pub with_scale : ScaleSet → ChannelValue → ScaledValue
with_scale set value = record { value = value; scale = scale_for set value.scale }

-- the values that a mark encodes in a channel, in order, each with its scale; none in a channel that it doesn't encode
abbrev pub channel_values : ScaleSet → Option Encode → ChannelName → List ScaledValue
channel_values set sets n = map (with_scale set) (option_map_or values_in (encoded sets n) [])

-- The rules at work.

-- numbers up to this, from the left end to the right one of a plot that is 100 pixels wide
abbrev up_to : ℕ → Scale
up_to n = Linear (pos 0) (pos n) (pos 0) (pos 100000000)

abbrev scale_of : List ℕ → ℕ → ScaleIn
scale_of name n = record { panel = None; name = name; scale = up_to n }

-- a chart with the scales x and y, and an object in it with scales x and color
abbrev the_chart : ScaleSet
the_chart = record { scales = scale_of (codes "x") 1 ∷ scale_of (codes "y") 2 ∷ [] }

abbrev the_object : ScaleSet
the_object = record { scales = scale_of (codes "x") 3 ∷ scale_of (codes "color") 4 ∷ [] }

names_of_the_object : (is_named the_object (codes "x") ≡ true) × (is_named the_object (codes "y") ≡ false)
names_of_the_object = (refl, refl)

-- its own x hides that of the chart
scales_in_the_object : scales_within the_object the_chart
    ≡ record { scales = scale_of (codes "x") 3 ∷ scale_of (codes "color") 4 ∷ scale_of (codes "y") 2 ∷ [] }
scales_in_the_object = refl

what_the_names_lead_to : (scale_named (scales_within the_object the_chart) (codes "x") ≡ Some (up_to 3))
    × (scale_named (scales_within the_object the_chart) (codes "y") ≡ Some (up_to 2))
    × (scale_named (scales_within the_object the_chart) (codes "size") ≡ None)
what_the_names_lead_to = (refl, refl, refl)
