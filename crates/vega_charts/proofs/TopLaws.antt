-- Why the top says what is said of one plot.
use Rattle.std.proofs.Common.{◌≡◌, ℕ, ◌-◌, ◌^◌, min, nat_lt, is_some, Option, None, true, false, cond, List, Some, refl, ap, ◌∙◌}
use Rattle.cell_value.specs.State.{Dataset}
use Rattle.expr_eval.specs.Values.{Values}
use Rattle.scene_tree.specs.Outcome.{Outcome, ◌>>=◌, in_reach, Overflow, Panels}
use Rattle.vega_spec.specs.declared.spec.VgSpec.{VgSpec}
use Rattle.vega_signals.specs.Settling.{Valued}
use Rattle.vega_copies.specs.Outlines.{Opened, NoMarks, AMark, AGroup}
use Rattle.vega_copies.specs.Scopes.{Names, names_at_top}
use Rattle.vega_copies.specs.Panels.{plots_in_facets}
use Rattle.vega_charts.specs.Panels.{most_panels, with_panels}
use Rattle.plot_scenes.specs.declared.scenes.Drawing.{Drawing}
use Rattle.vega_charts.specs.Scenes.{drawing_over}
use Rattle.vega_charts.specs.Charts.{drawn_from}
use Rattle.vega_charts.specs.Laws.{NoGroupsNoPanels, ChartLaws}

no_panels : NoGroupsNoPanels
no_panels sources NoMarks in_facet in_grid names e = refl
no_panels sources (AMark unit mark others) in_facet in_grid names e = no_panels sources others in_facet in_grid names e
no_panels sources (AGroup object inside others) in_facet in_grid names e = absurd (cc)

module _ (g : VgSpec) (top : Opened) (stores : Values) (params : Valued) (sources : List Dataset) where
  abbrev after_panels : Names → ℕ → Outcome Drawing
  after_panels names n = with_panels n (in_reach (drawing_over g sources top names))

  abbrev after_names : Names → Outcome Drawing
  after_names names = in_reach (plots_in_facets sources top.marks false (is_some top.object.layout) names) >>= after_panels names

  lists_first : names_at_top stores params sources top.object ≡ None → drawn_from g top stores params sources ≡ Overflow
  lists_first none = ap (λ (names : Option Names). in_reach names >>= after_names) none

  panels_next : (names : Names) (n : ℕ) → names_at_top stores params sources top.object ≡ Some names
      → plots_in_facets sources top.marks false (is_some top.object.layout) names ≡ Some n
      → nat_lt most_panels n ≡ true → drawn_from g top stores params sources ≡ Panels (min n (2 ^ 64 - 1))
  panels_next names n named counted many =
      ap (λ (found : Option Names). in_reach found >>= after_names) named
      ∙ ap (λ (found : Option ℕ). in_reach found >>= after_panels names) counted
      ∙ ap (λ b. cond b (Panels (min n (2 ^ 64 - 1))) (in_reach (drawing_over g sources top names))) many

pub laws : ChartLaws
laws = record { top = λ stores g sources params. refl; no_panels = no_panels; lists = lists_first; panels = panels_next }
