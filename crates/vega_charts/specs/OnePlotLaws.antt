-- What holds of a chart that is one plot: its picture is that of a plot with its guides.
use Rattle.std.specs.Prelude.{◌≡◌, true, Option, Some, None, List, [], ◌++◌}
use Rattle.fixed_num.specs.Ranges.{◌>>=◌}
use Rattle.cell_value.specs.State.{Dataset}
use Rattle.expr_eval.specs.Values.{Values}
use Rattle.scale_kit.specs.Scale.{IsPixel}
use Rattle.scene_tree.specs.declared.scene.Item.{Item}
use Rattle.scene_tree.specs.declared.scene.Scene.{Scene}
use Rattle.scene_tree.specs.Outcome.{Drawn, outcome_map, in_reach}
use Rattle.vega_spec.specs.declared.spec.VgSpec.{VgSpec}
use Rattle.vega_signals.specs.Settling.{Valued}
use Rattle.plot_scenes.specs.OnePlot.{picture_of_plot, plain_scene, IsSpace}
use Rattle.plot_scenes.specs.declared.scenes.Drawing.{Drawing}
use Rattle.vega_drawing.specs.Sizes.{padding_round}
use Rattle.vega_copies.specs.Outlines.{Object, Marks, NoMarks, AMark, AGroup, outline_of, first_unit}
use Rattle.vega_copies.specs.Scopes.{Names, names_at_top}
use Rattle.vega_copies.specs.Facts.{facts_here}
use Rattle.vega_drawing.specs.Frames.{Frame}
use Rattle.vega_charts.specs.Items.{items_in_plot, rows_of_mark}
use Rattle.vega_drawing.specs.Guides.{axes_over, own_axes, legends_in}
use Rattle.vega_drawing.specs.Tops.{top_frame}
use Rattle.vega_charts.specs.Charts.{drawing_of}
use Rattle.vega_charts.specs.Laws.{has_no_groups}

-- the items of marks one after the other, where nothing moves them; those of groups aren't among them
abbrev pub items_of_marks : Frame → Marks → Option (List Item)
items_of_marks frame NoMarks = Some []
items_of_marks frame (AMark unit m others) = do
  own ← items_in_plot frame unit m (rows_of_mark frame.names.lists m.from)
  rest ← items_of_marks frame others
  Some (own ++ rest)
items_of_marks frame (AGroup o inside others) = items_of_marks frame others

-- The picture of a plot with its axes, its legends, its title and these items. None where a tick or its place is out of range.
abbrev pub scene_of_plot : VgSpec → Object → Marks → Frame → List Item → Option Scene
scene_of_plot g o marks frame items =
    picture_of_plot (padding_round g.padding) frame.width frame.height o.title (axes_over frame.width frame.height (own_axes o frame)) (legends_in o frame)
    (first_unit marks) items

-- A specification is one plot: an object without a layout, and marks in it without groups. Over sources, and with parameters and stores, it
-- has this frame, and its marks have these items.
pub record IsOnePlot (g : VgSpec) (stores : Values) (params : Valued) (sources : List Dataset) (o : Object) (marks : Marks) (names : Names)
    (frame : Frame) (items : List Item) : Type 0 where
  pub outline : outline_of g ≡ record { object = o; marks = marks }
  pub layout : o.layout ≡ None
  pub no_groups : has_no_groups marks ≡ true
  pub named : names_at_top stores params sources o ≡ Some names
  pub framed : (facts_here None o names >>= top_frame g.width g.height o) ≡ Some frame
  pub found : items_of_marks frame marks ≡ Some items

-- it is drawn as a plot with its guides
abbrev pub OnePlotIsDrawn : Type 0
OnePlotIsDrawn = (g : VgSpec) (stores : Values) (params : Valued) (sources : List Dataset) (o : Object) (marks : Marks) (names : Names)
    (frame : Frame) (items : List Item) → IsOnePlot g stores params sources o marks names frame items
    → outcome_map (λ (d : Drawing). d.scene) (drawing_of g stores params sources) ≡ in_reach (scene_of_plot g o marks frame items)

-- an object without axes, legends and title
pub record HasNoGuides (o : Object) : Type 0 where
  pub axes : o.axes ≡ []
  pub legends : o.legends ≡ []
  pub title : o.title ≡ None

-- without guides it is the plot alone with the padding round it
abbrev pub APlotAlone : Type 0
APlotAlone = (g : VgSpec) (stores : Values) (params : Valued) (sources : List Dataset) (o : Object) (marks : Marks) (names : Names)
    (frame : Frame) (items : List Item) → IsOnePlot g stores params sources o marks names frame items → HasNoGuides o
    → IsSpace (padding_round g.padding) → IsPixel frame.width → IsPixel frame.height
    → outcome_map (λ (d : Drawing). d.scene) (drawing_of g stores params sources)
    ≡ Drawn (plain_scene (padding_round g.padding) frame.width frame.height (first_unit marks) items)

-- all laws
pub record OnePlotLaws : Type 0 where
  pub drawn : OnePlotIsDrawn
  pub alone : APlotAlone
