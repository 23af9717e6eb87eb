-- The opening chart of a tree is the Vega chart of what is opened of it.
use Rattle.std.proofs.Common.{◌≡◌, ℕ, Bool, true, false, Option, Some, None, List, Result, Ok, Err, refl, sym, ap, subst, ◌∙◌}
use Rattle.std.specs.Prelude.{if◌then◌else◌}
use Rattle.fixed_num.proofs.Steps.{bind_ok}
use Rattle.json_exact.specs.declared.json.Json.{Json}
use Rattle.chart_io.specs.Outside.{Files}
use Rattle.cell_value.specs.declared.state.ChartState.{ChartState}
use Rattle.cell_value.specs.State.{state_of}
use Rattle.vega_spec.specs.declared.spec.VgSpec.{VgSpec}
use Rattle.vega_model.specs.Reading.{read_of}
use Rattle.vl_spec.specs.declared.spec.VlSpec.{VlSpec}
use Rattle.vl_model.specs.Reading as vl
use Rattle.vega_meaning.specs.Charts.{vega_chart_of}
use Rattle.first_form.specs.declared.form.FirstForm.{FirstForm}
use Rattle.first_form.specs.FirstForm.{form_of}
use Rattle.first_form.specs.Drawable.{IsDrawable}
use Rattle.first_form.specs.Opening.{bars_of, opening_of}
use Rattle.first_form.specs.Laws.{FormsAreDrawable, VegaChartIsTheChart}
use Rattle.chart_opening.specs.declared.opened.Opened.{Opened}
use Rattle.chart_opening.specs.declared.refusal.Refusal.{Refusal}
use Rattle.chart_opening.specs.Texts.{Reading}
use Rattle.chart_opening.specs.Files.{tree_of_file}
use Rattle.chart_opening.specs.Schemas.{is_vega}
use Rattle.chart_opening.specs.Opening.{opening_by}
use Rattle.chart_opening.specs.Specs.{spec_of, vega_read, vl_read, vl_spec_of, opened_with, opened_by}
use Rattle.chart_opening.specs.Laws.{FormsOpen}
use Rattle.chart_run.specs.Wanted.{opening_chart, form_chart}

-- a Vega-Lite specification of the first form gives the specification of its bars
pub form_bars : (r : Result VlSpec vl.Refused) (form : FirstForm) (g : VgSpec) → vl_read r (Some form) ≡ Ok g → bars_of form ≡ g
form_bars (Ok s) form g e = cc
form_bars (Err fault) form g e = absurd cc

-- what is not refused
abbrev pub accepted : {A : Type 0} → A → Result A Refusal
accepted x = Ok x

-- two that are the same outcome are the same
pub accepted_is : {A : Type 0} (x y : A) → accepted x ≡ accepted y → x ≡ y
accepted_is x y e = cc

module _ (drawable : FormsAreDrawable) (same_chart : VegaChartIsTheChart) (forms_open : FormsOpen) (reading : Reading) (files : Files) where
  -- what a form opens with is its bars in its opening state
  form_opened : (form : FirstForm) (opened : Opened) → IsDrawable form → opened_with reading files (bars_of form) ≡ Ok opened
      → opened ≡ record { spec = bars_of form; state = opening_of form }
  form_opened form opened is e =
      let (state, given, after) = bind_ok (opening_by reading files (bars_of form)) _ opened e in
      let same : Ok state ≡ Ok (opening_of form) = sym given ∙ forms_open reading files form is in
      let states : state ≡ opening_of form = accepted_is state (opening_of form) same in
      sym (accepted_is _ opened after) ∙ ap (λ (s : ChartState). record { spec = bars_of form; state = s }) states

  by_form : (o : Option FirstForm) (tree : Json) (g : VgSpec) (opened : Opened) → form_of tree ≡ o → vl_read (vl.read_of tree) o ≡ Ok g
      → opened_with reading files g ≡ Ok opened → form_chart o opened ≡ vega_chart_of opened.spec (state_of opened.state)
  by_form None tree g opened said e after = refl
  by_form (Some form) tree g opened said e after =
      let is = drawable tree form said in
      let at : VgSpec → Type 0 = λ spec. opened_with reading files spec ≡ Ok opened in
      let whole = form_opened form opened is (subst at (sym (form_bars (vl.read_of tree) form g e)) after) in
      sym (same_chart form is) ∙ ap (λ (o : Opened). vega_chart_of o.spec (state_of o.state)) (sym whole)

  chart_here : (vega : Bool) (tree : Json) (g : VgSpec) (opened : Opened)
      → (if vega then vega_read (read_of tree) else vl_spec_of tree) ≡ Ok g → opened_with reading files g ≡ Ok opened
      → (if vega then vega_chart_of opened.spec (state_of opened.state) else form_chart (form_of tree) opened)
      ≡ vega_chart_of opened.spec (state_of opened.state)
  chart_here true tree g opened e after = refl
  chart_here false tree g opened e after = by_form (form_of tree) tree g opened refl e after

  pub picture_is : (name : List ℕ) (opened : Opened) → opened_by reading files name ≡ Ok opened
      → (tree : Json) × (tree_of_file reading files name ≡ Ok tree)
      × (opening_chart tree opened ≡ vega_chart_of opened.spec (state_of opened.state))
  picture_is name opened e =
      let (tree, read, after) = bind_ok (tree_of_file reading files name) _ opened e in
      let (g, said, rest) = bind_ok (spec_of tree) (opened_with reading files) opened after in
      (tree, read, chart_here (is_vega tree) tree g opened said rest)
