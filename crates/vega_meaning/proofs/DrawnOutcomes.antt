-- Taking apart what comes of drawing.
use Rattle.std.proofs.Common.{◌≡◌, ℕ, Bool, true, false, Option, Some, None, refl, sym, ap, ◌∙◌}
use Rattle.std.specs.Prelude.{List, nat_lt, min, ◌-◌, ◌^◌, is_some, if◌then◌else◌}
use Rattle.cell_value.specs.State.{Dataset, State}
use Rattle.expr_eval.specs.Stores.{values_of_stores}
use Rattle.expr_eval.specs.Values.{Values}
use Rattle.scene_tree.specs.declared.scene.Scene.{Scene}
use Rattle.scene_tree.specs.Outcome.{Outcome, Drawn, Overflow, Panels, ◌>>=◌, in_reach}
use Rattle.selection_events.specs.Brushes.{with_brushes}
use Rattle.selection_events.specs.Events.{Inverts}
use Rattle.param_flow.specs.Semantics.{Picture}
use Rattle.vega_spec.specs.declared.spec.VgSpec.{VgSpec}
use Rattle.vega_selections.specs.Plots.{plots_of}
use Rattle.vega_signals.specs.Settling.{Valued}
use Rattle.vega_copies.specs.Outlines.{Opened, outline_of}
use Rattle.vega_copies.specs.Scopes.{Names, names_at_top}
use Rattle.vega_copies.specs.Panels.{plots_in_facets}
use Rattle.plot_scenes.specs.declared.scenes.Drawing.{Drawing}
use Rattle.vega_charts.specs.Charts.{drawing_of}
use Rattle.vega_charts.specs.Panels.{most_panels, with_panels}
use Rattle.vega_charts.specs.Scenes.{drawing_over}
use Rattle.vega_meaning.specs.Charts.{inverts_in, brushed_scene, picture_of, vega_picture_of}

reached : {A B : Type 0} (o : Option A) (f : A → Outcome B) (b : B) → (in_reach o >>= f) ≡ Drawn b → (a : A) × (o ≡ Some a) × (f a ≡ Drawn b)
reached None f b e = absurd (cc e)
reached (Some a) f b e = (a, refl, e)

drawn_first : {A B : Type 0} (o : Outcome A) (f : A → Outcome B) (b : B) → (o >>= f) ≡ Drawn b → (a : A) × (o ≡ Drawn a) × (f a ≡ Drawn b)
drawn_first (Drawn a) f b e = (a, refl, e)
drawn_first Overflow f b e = absurd (cc e)
drawn_first (Panels n) f b e = absurd (cc e)

in_reach_is : {A : Type 0} (o : Option A) (a : A) → in_reach o ≡ Drawn a → o ≡ Some a
in_reach_is None a e = absurd (cc e)
in_reach_is (Some x) a e = cc e

few_panels : {A : Type 0} (n : ℕ) (o : Outcome A) (a : A) → with_panels n o ≡ Drawn a → o ≡ Drawn a
few_panels {A} n o a e = by_test (nat_lt most_panels n) e
  where
    by_test : (b : Bool) → (if b then Panels (min n (2 ^ 64 - 1)) else o) ≡ Drawn a → o ≡ Drawn a
    by_test true f = absurd (cc f)
    by_test false f = f

-- what is drawn is drawn over names
pub drawing_is : (g : VgSpec) (stores : Values) (params : Valued) (sources : List Dataset) (drawing : Drawing)
    → drawing_of g stores params sources ≡ Drawn drawing
    → (names : Names) × (drawing_over g sources (outline_of g) names ≡ Some drawing)
drawing_is g stores params sources drawing e =
    let top : Opened = outline_of g in
    let first = reached (names_at_top stores params sources top.object) (λ names.
    in_reach (plots_in_facets sources top.marks false (is_some top.object.layout) names) >>= λ plots.
    with_panels plots (in_reach (drawing_over g sources top names))) drawing e in
    let second = reached (plots_in_facets sources top.marks false (is_some top.object.layout) first.0) (λ plots.
    with_panels plots (in_reach (drawing_over g sources top first.0))) drawing first.2 in
    (first.0, in_reach_is (drawing_over g sources top first.0) drawing (few_panels second.0 (in_reach (drawing_over g sources top first.0)) drawing second.2))

-- a picture is drawn, and then brushed
pub record IsPictureOf (g : VgSpec) (st : State) (picture : Picture) : Type 0 where
  pub drawing : Drawing
  pub drawn : drawing_of g (values_of_stores st.stores) st.params st.sources ≡ Drawn drawing
  pub brushed : with_brushes (plots_of g) (inverts_in g drawing) st.stores drawing.scene ≡ Some picture.scene
  pub inverts : picture.inverts ≡ inverts_in g drawing

abbrev picture_with : Scene → Inverts → Picture
picture_with scene inverts = record { scene = scene; inverts = inverts }

pub picture_is : (g : VgSpec) (st : State) (picture : Picture) → vega_picture_of g st ≡ Drawn picture → IsPictureOf g st picture
picture_is g st picture e =
    let first = drawn_first (drawing_of g (values_of_stores st.stores) st.params st.sources) (picture_of g st.stores) picture e in
    let second = drawn_first (brushed_scene g st.stores first.0.scales first.0.scene)
    (λ scene. Drawn (picture_with scene (inverts_in g first.0))) picture first.2 in
    let same : picture_with second.0 (inverts_in g first.0) ≡ picture = cc second.2 in
    record {
      drawing = first.0;
      drawn = first.1;
      brushed = in_reach_is (with_brushes (plots_of g) (inverts_in g first.0) st.stores first.0.scene) picture.scene
          (second.1 ∙ ap (λ (p : Picture). Drawn p.scene) same);
      inverts = ap (λ (p : Picture). p.inverts) (sym same);
    }

-- and over the names of the top
pub drawing_named : (g : VgSpec) (stores : Values) (params : Valued) (sources : List Dataset) (drawing : Drawing)
    → drawing_of g stores params sources ≡ Drawn drawing
    → (names : Names) × (names_at_top stores params sources (outline_of g).object ≡ Some names) × (drawing_over g sources (outline_of g) names ≡ Some drawing)
drawing_named g stores params sources drawing e =
    let top : Opened = outline_of g in
    let first = reached (names_at_top stores params sources top.object) (λ names.
    in_reach (plots_in_facets sources top.marks false (is_some top.object.layout) names) >>= λ plots.
    with_panels plots (in_reach (drawing_over g sources top names))) drawing e in
    let second = reached (plots_in_facets sources top.marks false (is_some top.object.layout) first.0) (λ plots.
    with_panels plots (in_reach (drawing_over g sources top first.0))) drawing first.2 in (
      first.0,
      first.1,
      in_reach_is (drawing_over g sources top first.0) drawing (few_panels second.0 (in_reach (drawing_over g sources top first.0)) drawing second.2),
    )
