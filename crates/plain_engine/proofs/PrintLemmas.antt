-- What is written of what is kept.
use Rattle.std.proofs.Common.{◌≡◌, ℕ, List, Result, sym, ap, subst}
use Rattle.std.specs.Prelude.{OnOk}
use Rattle.cell_value.specs.State.{state_of}
use Rattle.cell_value.specs.declared.state.ChartState.{ChartState}
use Rattle.scene_tree.specs.Outcome.{Outcome, Drawn, IsDrawn, outcome_map}
use Rattle.svg_text.specs.SceneText.{svg_of}
use Rattle.plot_scenes.specs.declared.scenes.Drawing.{Drawing}
use Rattle.param_flow.specs.Semantics.{text_of}
use Rattle.vega_spec.specs.declared.spec.VgSpec.{VgSpec}
use Rattle.vega_meaning.specs.Charts.{vega_chart_of}
use Rattle.plain_engine.specs.inner.Kept.{IsKept}
use Rattle.plain_engine.proofs.EventLemmas.{picture_held}

-- the chart is the text of the scene that is held
pub chart_held : (g : VgSpec) (st : ChartState) (held : Drawing) → IsKept g st held → vega_chart_of g (state_of st) ≡ Drawn (svg_of held.scene)
chart_held g st held h = ap (outcome_map text_of) (picture_held g st held h)

-- what holds of the text that was written, and of a beginning of it
pub printed : {X E : Type 0} (result : Result X E) (o : Outcome (List ℕ)) (text : List ℕ) (P : List ℕ → Type 0) → o ≡ Drawn text → OnOk result (P text)
    → OnOk result (IsDrawn o P)
printed result o text P is h = subst (λ o. OnOk result (IsDrawn o P)) (sym is) h

pub begun : (o : Outcome (List ℕ)) (text : List ℕ) (P : List ℕ → Type 0) → o ≡ Drawn text → P text → IsDrawn o P
begun o text P is h = subst (λ o. IsDrawn o P) (sym is) h
