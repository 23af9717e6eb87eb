-- What is drawn of a Vega specification, from the facts of its copies and the items of its marks: its picture, and the scales of its plots.
use Rattle.std.specs.Prelude.{List, map, filter, Option}
use Rattle.fixed_num.specs.Ranges.{◌>>=◌}
use Rattle.scale_kit.specs.declared.scale.ScaleIn.{ScaleIn}
use Rattle.vega_spec.specs.declared.spec.VgSpec.{VgSpec}
use Rattle.plot_scenes.specs.declared.scenes.Drawing.{Drawing}
use Rattle.plot_scenes.specs.Scenes.{drawing_with}
use Rattle.vega_copies.specs.Outlines.{Opened}
use Rattle.vega_copies.specs.Facts.{CopyFound}
use Rattle.vega_drawing.specs.Sizes.{padding_round}
use Rattle.vega_drawing.specs.Scales.{ScaleHere, scale_in}
use Rattle.vega_drawing.specs.Frames.{Frame}
use Rattle.vega_drawing.specs.Insides.{ItemsOfMarks}
use Rattle.vega_drawing.specs.Tops.{top_frame}
use Rattle.vega_drawing.specs.Views.{view_of}

-- the scales of the top that belong to the whole chart
abbrev pub scales_of_chart : Frame → List ScaleIn
scales_of_chart frame = map (scale_in frame.width frame.height) (filter (λ (s : ScaleHere). s.is_of_chart) frame.scales)

-- what is drawn of a specification with its top opened, of which this was found; None where a number is out of range
abbrev pub drawn_from_facts : ItemsOfMarks → VgSpec → Opened → CopyFound → Option Drawing
drawn_from_facts items g top found = do
  frame ← top_frame g.width g.height top.object found.facts
  view ← view_of items top.object top.marks found.inside frame
  drawing_with (padding_round g.padding) (scales_of_chart frame) view
