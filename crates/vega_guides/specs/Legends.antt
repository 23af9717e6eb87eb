-- What a legend of a specification shows.
use Rattle.std.specs.Prelude.{◌≡◌, refl, ℕ, List, codes, Option, Some, None}
use Rattle.guide_kit.specs.declared.legends.LegendOf.{LegendOf}
use Rattle.vega_spec.specs.declared.guides.Legend.{Legend}
use Rattle.vega_guides.specs.declared.channels.LegendChannel.{LegendChannel}
use Rattle.vega_guides.specs.declared.channels.LegendChannel.TheVariants.{Fill, Opacity, Shape, Size}

-- a channel by its code
abbrev pub channel_of : LegendChannel → ℕ
channel_of Fill = 4
channel_of Opacity = 5
channel_of Shape = 7
channel_of Size = 6

-- the name of the scale that a legend shows in a channel, if it does
abbrev pub scale_shown : LegendChannel → Legend → Option (List ℕ)
scale_shown Fill l = l.fill
scale_shown Opacity l = l.opacity
scale_shown Shape l = l.shape
scale_shown Size l = l.size

-- the colour of signs that don't show one
abbrev pub sign_color : List ℕ
sign_color = codes "#4c78a8"

-- a legend in a channel
abbrev pub legend_shown : LegendChannel → Legend → LegendOf
legend_shown channel l = record { channel = channel_of channel; title = l.title; format = l.format; colour = sign_color }

-- ---- worked examples

abbrev of_sizes : Legend
of_sizes = record {
  fill = None;
  opacity = None;
  shape = None;
  size = Some (codes "s");
  title = Some (codes "c");
  format = None;
}

a_legend_of_sizes : (scale_shown Size of_sizes ≡ Some (codes "s")) × (scale_shown Fill of_sizes ≡ None)
    × (legend_shown Size of_sizes ≡ record { channel = 6; title = Some (codes "c"); format = None; colour = codes "#4c78a8" })
a_legend_of_sizes = (refl, refl, refl)
