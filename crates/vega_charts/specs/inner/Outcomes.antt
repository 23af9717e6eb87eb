-- What comes of drawing the top, step by step.
use Rattle.std.specs.Prelude.{ℕ, nat_lt, Bool, false, List, is_some, Result, Ok, Err, if◌then◌else◌}
use Rattle.cell_value.specs.State.{Dataset}
use Rattle.expr_eval.specs.declared.error.EvalError.{EvalError}
use Rattle.expr_eval.specs.declared.error.EvalError.TheVariants as eval
use Rattle.scene_tree.specs.Outcome.{Outcome, Panels, ◌>>=◌, in_reach}
use Rattle.vega_spec.specs.declared.spec.Group.{out-Group}
use Rattle.vega_spec.specs.declared.spec.VgSpec.{VgSpec}
use Rattle.plot_scenes.specs.declared.scenes.Drawing.{Drawing}
use Rattle.vega_charts.specs.declared.charts.DrawError.{DrawError}
use Rattle.vega_charts.specs.declared.charts.DrawError.TheVariants as error
use Rattle.vega_copies.specs.Scopes.{Names}
use Rattle.vega_copies.specs.Panels.{plots_in_facets}
use Rattle.vega_charts.specs.Panels.{most_panels, with_panels}
use Rattle.vega_charts.specs.Scenes.{drawing_over}
use Rattle.vega_copies.specs.inner.Outlined.{marks_in, marks_of}
use Rattle.vega_charts.specs.inner.Topped.{top_of}

-- why nothing is drawn, where an evaluation stops
abbrev pub stopped : EvalError → DrawError
stopped eval.Overflow = error.Overflow
stopped eval.Memory = error.Memory

-- what is answered of an evaluation
abbrev pub answered : {X : Type 0} → Result X EvalError → Result X DrawError
answered (Ok x) = Ok x
answered (Err e) = Err (stopped e)

-- what comes of drawing with so many plots in facets, as far as 64 bits count them
abbrev pub with_counted : {X : Type 0} → ℕ → Outcome X → Outcome X
with_counted n drawn = if nat_lt most_panels n then Panels n else drawn

-- whether the plots in facets can be counted
abbrev pub can_be_counted : List Dataset → VgSpec → Names → Bool
can_be_counted sources g names =
    is_some (plots_in_facets sources (marks_of (marks_in (out-Group g.group))) false (is_some (out-Group g.group).layout) names)

-- what comes of drawing where names stand for lists and values at the top
abbrev pub drawn_within : List Dataset → VgSpec → Names → Outcome Drawing
drawn_within sources g names = do
  plots ← in_reach (plots_in_facets sources (top_of g).marks false (is_some (top_of g).object.layout) names)
  with_panels plots (in_reach (drawing_over g sources (top_of g) names))
