-- The guides of copies of objects: axes over their scales, and legends.
use Rattle.std.specs.Prelude.{ℕ, ℤ, Option, Some, List, [], ◌∷◌, map, flat_map}
use Rattle.std.specs.List.{filter, filter_map, enumerate_from}
use Rattle.fixed_num.specs.Ranges.{◌>>=◌}
use Rattle.vega_spec.specs.declared.guides.Legend.{Legend}
use Rattle.vega_guides.specs.declared.channels.LegendChannel.{LegendChannel}
use Rattle.vega_guides.specs.declared.channels.LegendChannel.TheVariants.{Fill, Opacity, Shape, Size as SizeChannel}
use Rattle.vega_guides.specs.Legends.{scale_shown, legend_shown}
use Rattle.vega_guides.specs.Shown.{axis_shown}
use Rattle.plot_scenes.specs.declared.legends.LegendShown.{LegendShown}
use Rattle.plot_scenes.specs.declared.axes.AxisShown.{AxisShown}
use Rattle.vega_copies.specs.Outlines.{Object}
use Rattle.vega_drawing.specs.Scales.{laid_over, scale_named, AxisHere, axes_here, stands}
use Rattle.vega_drawing.specs.Frames.{Frame}

-- an axis over its scale in a plot of this width and height
abbrev pub axis_over : ℤ → ℤ → AxisHere → AxisShown
axis_over width height a = record { axis = axis_shown a.axis; scale = laid_over width height a.scale }

-- the axes that stand in a plot of this size among some
abbrev pub axes_over : ℤ → ℤ → List AxisHere → List AxisShown
axes_over width height axes = map (axis_over width height) (filter stands axes)

-- the axes of a copy of an object
abbrev pub own_axes : Object → Frame → List AxisHere
own_axes o frame = axes_here frame.scales o.axes

-- the channels that legends show, in their order
abbrev pub legend_channels : List (ℕ × LegendChannel)
legend_channels = enumerate_from 0 (Fill ∷ Opacity ∷ Shape ∷ SizeChannel ∷ [])

-- a legend of this index in its object, in a channel, over the scale that it names there, if it names one
abbrev pub legend_in_channel : ℕ → Frame → ℕ × Legend → ℕ × LegendChannel → Option LegendShown
legend_in_channel object frame l c = do
  name ← scale_shown c.1 l.1
  s ← scale_named frame.scales name
  Some (record {
    channel = c.0;
    object = object;
    index = l.0;
    legend = legend_shown c.1 l.1;
    scale = laid_over frame.width frame.height s;
  })

-- the legends of a copy of an object
abbrev pub legends_in : Object → Frame → List LegendShown
legends_in o frame = flat_map (λ l. filter_map (legend_in_channel o.number frame l) legend_channels) (enumerate_from 0 o.legends)
