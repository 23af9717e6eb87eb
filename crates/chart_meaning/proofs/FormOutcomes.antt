-- What comes of drawing a plan, step by step.
use Rattle.std.proofs.Common.{◌≡◌, Option, Some, None, List, [], refl, ◌∙◌}
use Rattle.std.specs.Option.{option_map}
use Rattle.cell_value.specs.State.{State}
use Rattle.expr_eval.specs.Values.{Values}
use Rattle.scene_tree.specs.Outcome.{Outcome, Drawn, Overflow, Panels, ◌>>=◌, outcome_map, in_reach}
use Rattle.svg_text.specs.SceneText.{svg_of}
use Rattle.plot_scenes.specs.declared.scenes.Drawing.{Drawing}
use Rattle.param_flow.specs.Semantics.{text_of}
use Rattle.vl_spec.specs.declared.params.ParamOf.{ParamOf}
use Rattle.plan_kit.specs.declared.plan.Plan.{Plan}
use Rattle.chart_meaning.specs.Charts.{drawn, brushed, picture_over, with_panels}
use Rattle.chart_meaning.specs.Parameters.{Settled, settled, values_in}
use Rattle.chart_meaning.specs.Parts.{Copy, whole_copy}
use Rattle.chart_meaning.specs.Views.{Views, views_of, plots_in_facets, drawing_over}

-- what comes of the lists, where these are the views
abbrev pub after_lists : Plan → Settled → Values → Views → Option Copy → Outcome Drawing
after_lists p settled values views found =
    in_reach found >>= λ copy. with_panels (plots_in_facets views copy) (in_reach (drawing_over p settled values copy))

pub drawn_opened : (p : Plan) (params : List ParamOf) (st : State)
    → drawn p params st ≡ after_lists p (settled params st) (values_in params st) (views_of p) (whole_copy (values_in params st) st.sources p)
drawn_opened p params st = refl

-- without stores nothing is brushed
by_drawing : (p : Plan) (d : Outcome Drawing)
    → outcome_map text_of (d >>= brushed p []) ≡ outcome_map svg_of (outcome_map (λ (d : Drawing). d.scene) d)
by_drawing p (Drawn d) = refl
by_drawing p Overflow = refl
by_drawing p (Panels n) = refl

pub unbrushed : (p : Plan) (params : List ParamOf) (st : State) → st.stores ≡ []
    → outcome_map text_of (picture_over p params st) ≡ outcome_map svg_of (outcome_map (λ (d : Drawing). d.scene) (drawn p params st))
unbrushed p params st none =
    (λ i. outcome_map text_of (drawn p params st >>= brushed p (none i))) ∙ by_drawing p (drawn p params st)

pub mapped : {X Y : Type 0} (f : X → Y) (o : Option X) → outcome_map f (in_reach o) ≡ in_reach (option_map f o)
mapped f None = refl
mapped f (Some x) = refl
