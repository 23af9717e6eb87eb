-- Where something is drawn, and where nothing is.
use Rattle.std.proofs.Common.{◌≡◌, ℕ, Bool, true, false, Option, Some, None, Result, Err, List, refl, sym, ap, ◌∙◌, subst}
use Rattle.std.specs.Prelude.{nat_lt, min, ◌-◌, ◌^◌, is_some, if◌then◌else◌}
use Rattle.cell_value.specs.State.{Dataset}
use Rattle.expr_eval.specs.Answers.{Evaluates}
use Rattle.expr_eval.specs.Values.{Values}
use Rattle.expr_eval.specs.declared.error.EvalError.{EvalError}
use Rattle.expr_eval.specs.declared.error.EvalError.TheVariants as eval
use Rattle.scene_tree.specs.Outcome.{Outcome, Drawn, Overflow, Panels, ◌>>=◌, in_reach}
use Rattle.plot_scenes.specs.declared.scenes.Drawing.{Drawing}
use Rattle.vega_signals.specs.Settling.{Valued}
use Rattle.vega_spec.specs.declared.spec.VgSpec.{VgSpec}
use Rattle.vega_copies.specs.Outlines.{Opened}
use Rattle.vega_copies.specs.Panels.{plots_in_facets}
use Rattle.vega_copies.specs.Scopes.{Names, names_at_top}
use Rattle.vega_charts.specs.Charts.{drawing_of}
use Rattle.vega_charts.specs.Panels.{most_panels, with_panels}
use Rattle.vega_charts.specs.Scenes.{drawing_over}
use Rattle.vega_charts.specs.inner.Outcomes.{drawn_within}
use Rattle.vega_charts.specs.inner.Topped.{top_of}
use Rattle.vega_charts.proofs.OutcomeLemmas.{from_top}
use Rattle.plain_engine.specs.inner.Drawn.{IsDrawnOver, StopsDrawing}

reached : {A B : Type 0} (o : Option A) (f : A → Outcome B) (b : B) → (in_reach o >>= f) ≡ Drawn b → (a : A) × (o ≡ Some a) × (f a ≡ Drawn b)
reached None f b e = absurd (cc e)
reached (Some a) f b e = (a, refl, e)

in_reach_is : {A : Type 0} (o : Option A) (a : A) → in_reach o ≡ Drawn a → o ≡ Some a
in_reach_is None a e = absurd (cc e)
in_reach_is (Some x) a e = cc e

few_panels : {A : Type 0} (n : ℕ) (o : Outcome A) (a : A) → with_panels n o ≡ Drawn a → o ≡ Drawn a
few_panels {A} n o a e = by_test (nat_lt most_panels n) e
  where
    by_test : (b : Bool) → (if b then Panels (min n (2 ^ 64 - 1)) else o) ≡ Drawn a → o ≡ Drawn a
    by_test true f = absurd (cc f)
    by_test false f = f

-- what is drawn is drawn over names
pub drawn_over : (g : VgSpec) (stores : Values) (params : Valued) (sources : List Dataset) (drawing : Drawing)
    → drawing_of g stores params sources ≡ Drawn drawing
    → (names : Names) × (names_at_top stores params sources (top_of g).object ≡ Some names) × (drawing_over g sources (top_of g) names ≡ Some drawing)
drawn_over g stores params sources drawing e =
    let top : Opened = top_of g in
    let first = reached (names_at_top stores params sources top.object) (drawn_within sources g) drawing (sym (from_top stores g params sources) ∙ e) in
    let second = reached (plots_in_facets sources top.marks false (is_some top.object.layout) first.0) (λ plots.
    with_panels plots (in_reach (drawing_over g sources top first.0))) drawing first.2 in (
      first.0,
      first.1,
      in_reach_is (drawing_over g sources top first.0) drawing (few_panels second.0 (in_reach (drawing_over g sources top first.0)) drawing second.2),
    )

-- ---- where nothing is drawn

pub stops_named : (X : Type 0) (e : EvalError) (o : Option Names) (f : Names → Outcome Drawing) → Evaluates {X = Names} (Err e) o
    → StopsDrawing {X = X} (Err e) ((in_reach o >>= f))
stops_named X eval.Overflow o f none = ap (λ o. (in_reach o >>= f)) none
stops_named X eval.Memory o f none = tt

pub stops_counted : (X : Type 0) (e : EvalError) (o : Option ℕ) (f : ℕ → Outcome Drawing) → Evaluates {X = ℕ} (Err e) o
    → StopsDrawing {X = X} (Err e) ((in_reach o >>= f))
stops_counted X eval.Overflow o f none = ap (λ o. (in_reach o >>= f)) none
stops_counted X eval.Memory o f none = tt

pub stops_with : {X : Type 0} (result : Result X EvalError) (o : Option Names) (f : Names → Outcome Drawing) (names : Names) → o ≡ Some names
    → StopsDrawing result (f names) → StopsDrawing result ((in_reach o >>= f))
stops_with result o f names is h = subst (λ o. StopsDrawing result ((in_reach o >>= f))) (sym is) h

-- something is drawn
pub not_stopped : (g : VgSpec) (stores : Values) (params : Valued) (sources : List Dataset) → IsDrawnOver g stores params sources
    → drawing_of g stores params sources ≡ Overflow → ⊥
not_stopped g stores params sources (drawing, is) none = absurd (cc (sym is ∙ none))
