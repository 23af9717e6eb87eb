-- What comes of drawing a Vega specification.
use Rattle.std.specs.Prelude.{false, List, is_some}
use Rattle.cell_value.specs.State.{Dataset}
use Rattle.expr_eval.specs.Values.{Values}
use Rattle.scene_tree.specs.Outcome.{Outcome, ◌>>=◌, in_reach}
use Rattle.vega_spec.specs.declared.spec.VgSpec.{VgSpec}
use Rattle.vega_copies.specs.Outlines.{Opened, outline_of}
use Rattle.vega_signals.specs.Settling.{Valued}
use Rattle.vega_copies.specs.Scopes.{names_at_top}
use Rattle.vega_copies.specs.Panels.{plots_in_facets}
use Rattle.vega_charts.specs.Panels.{with_panels}
use Rattle.plot_scenes.specs.declared.scenes.Drawing.{Drawing}
use Rattle.vega_charts.specs.Scenes.{drawing_over}

-- What comes of drawing a specification, with its top opened. First the lists are made, with the signals that they read: one out of range
-- stops all. Then the plots in facets are counted. Then all the rest is drawn.
abbrev pub drawn_from : VgSpec → Opened → Values → Valued → List Dataset → Outcome Drawing
drawn_from g top stores params sources = do
  names ← in_reach (names_at_top stores params sources top.object)
  plots ← in_reach (plots_in_facets sources top.marks false (is_some top.object.layout) names)
  with_panels plots (in_reach (drawing_over g sources top names))

-- what comes of drawing a specification over sources of rows, whose settable parameters have values, and whose selections hold what is read
-- of their stores
abbrev pub drawing_of : VgSpec → Values → Valued → List Dataset → Outcome Drawing
drawing_of g stores params sources = drawn_from g (outline_of g) stores params sources
