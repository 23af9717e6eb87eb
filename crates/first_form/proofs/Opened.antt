-- What opening the Vega chart of a form answers.
use Rattle.std.proofs.Common.{◌≡◌, ℕ, List, Result, Ok, Err, sym, subst, ◌∙◌}
use Rattle.cell_value.specs.declared.state.ChartState.{ChartState}
use Rattle.cell_value.specs.State.{state_of}
use Rattle.scene_tree.specs.Outcome.{Drawn, Overflow, Panels, outcome_map}
use Rattle.vega_spec.specs.declared.spec.VgSpec.{VgSpec}
use Rattle.vega_meaning.specs.declared.open.OpenError.{OpenError}
use Rattle.vega_meaning.specs.declared.open.OpenError.TheVariants as error
use Rattle.vega_meaning.specs.Answers.{Draws}
use Rattle.vega_meaning.specs.Charts.{vega_chart_of}
use Rattle.first_form.specs.declared.form.FirstForm.{FirstForm}
use Rattle.first_form.specs.Bars.{chart_of}
use Rattle.first_form.specs.Opening.{bars_of, opening_of}
use Rattle.first_form.specs.Drawable.{IsDrawable}
use Rattle.first_form.proofs.DrawableLemmas.{chart_drawn}
use Rattle.first_form.proofs.SameChart.{vega_chart_is}

-- a form that can be drawn has its chart, which is its Vega chart
pub vega_chart_drawn : (form : FirstForm) → IsDrawable form
    → (text : List ℕ) × (vega_chart_of (bars_of form) (state_of (opening_of form)) ≡ Drawn text) × (chart_of form ≡ Drawn text)
vega_chart_drawn form drawable =
    let (text, drawn) = chart_drawn form drawable in
    (text, vega_chart_is form drawable ∙ drawn, drawn)

-- what is opened is what was meant, unless memory was refused: no number is out of range, and there are not too many panels
abbrev pub IsOpened : {M : Type 0} → M → Result M OpenError → Type 0
IsOpened meant (Ok opened) = opened ≡ meant
IsOpened meant (Err error.Memory) = Unit {0}
IsOpened meant (Err cause) = ⊥

opened_from : {M : Type 0} (meant : M) (r : Result M OpenError) → Draws (Drawn meant) r → IsOpened meant r
opened_from meant (Ok opened) answer = let e : Drawn meant ≡ Drawn opened = answer in let f : meant ≡ opened = cc in sym f
opened_from meant (Err error.Memory) answer = tt
opened_from meant (Err error.Overflow) answer = let e : Drawn meant ≡ Overflow = answer in absurd cc
opened_from meant (Err (error.Panels n)) answer = let e : Drawn meant ≡ Panels n = answer in absurd cc

pub open_answer : {M : Type 0} (form : FirstForm) (spec : VgSpec) (state : ChartState) (meant : M) (r : Result M OpenError)
    → IsDrawable form → spec ≡ bars_of form → state ≡ opening_of form
    → Draws (outcome_map (λ text. meant) (vega_chart_of spec (state_of state))) r → IsOpened meant r
open_answer form spec state meant r drawable same_spec same_state answer =
    let (text, drawn, own) = vega_chart_drawn form drawable in
    let known = (λ i. vega_chart_of (same_spec i) (state_of (same_state i))) ∙ drawn in
    opened_from meant r (subst (λ o. Draws (outcome_map (λ text. meant) o) r) known answer)
