-- A specification that keeps the rules has a meaning.
use Rattle.std.proofs.Common.{◌≡◌, ℕ, ◌+◌, false, Option, Some, None, List, [], map, refl, sym, ap, ap₂, subst, ◌∙◌, arith}
use Rattle.std.specs.Prelude.{find, slice_get, is_some}
use Rattle.std.specs.Option.{option_map, option_map_or, option_or}
use Rattle.std.proofs.lemmas.List.Elements.{All-map}
use Rattle.fixed_num.specs.Ranges.{◌>>=◌}
use Rattle.expr_eval.specs.Stores.{values_of_stores}
use Rattle.scale_kit.specs.declared.scale.Scale.{Scale}
use Rattle.scale_kit.specs.declared.scale.ScaleIn.{ScaleIn}
use Rattle.scale_kit.specs.Scale.{IsScale}
use Rattle.scene_tree.specs.declared.scene.Panel.{Panel}
use Rattle.selection_events.specs.declared.selection.SelectionOf.{SelectionOf}
use Rattle.selection_events.specs.declared.selection.DragOf.{DragOf}
use Rattle.selection_events.specs.declared.selection.PlotOf.{PlotOf}
use Rattle.selection_events.specs.Drags.{is_time}
use Rattle.selection_events.specs.Kept.{IsSelection, IsFacetRow}
use Rattle.selection_events.specs.Places.{has_unit, plot_with}
use Rattle.vega_spec.specs.declared.spec.VgSpec.{VgSpec}
use Rattle.vega_selections.specs.Plots.{numbered, plots_of, spans_in}
use Rattle.vega_selections.specs.Selections.{selections_of}
use Rattle.vega_events.specs.Scales.{scale_name, scale_in, inverted_by}
use Rattle.vega_events.specs.Laws.{is_named, plain_of}
use Rattle.vega_copies.specs.Outlines.{outline_of, count_marks}
use Rattle.vega_copies.proofs.ChartLaw.{rules_kept}
use Rattle.vega_drawing.specs.Scales.{scale_in as laid_in}
use Rattle.plot_scenes.specs.declared.scenes.Drawing.{Drawing}
use Rattle.plot_scenes.specs.declared.views.PanelHere.{PanelHere}
use Rattle.vega_meaning.specs.Charts.{inverts_in}
use Rattle.vega_meaning.specs.Laws.{SpecificationsMean, DrawnScalesAreSound}
use Rattle.vega_meaning.specs.Times.{scales_at, scaled_of, scales_of_top, is_time_named, temporal_of}
use Rattle.vega_meaning.proofs.Stretches.{Stretch, span_of, spans_of, sizes_count, spanned, in_object_spanned, in_object_scaled, scaled, stretches}
use Rattle.vega_meaning.proofs.Stretches as text
use Rattle.vega_meaning.proofs.PlotsFound.{stretch_at, scales_there, found}
use Rattle.vega_meaning.proofs.DrawnFacts.{Each}
use Rattle.vega_meaning.proofs.DrawnFrames.{top_round, each_found}
use Rattle.vega_meaning.proofs.DrawnParts.{drawn_scale, named_in, IsSound, Stands}
use Rattle.vega_meaning.proofs.DrawnScenes.{IsDrawnOf, IsPanel, js_of, drawn_of, scales_sound, among_panels, each_at, scale_there, scale_only}
use Rattle.vega_meaning.proofs.SpansFound.{outline_spans}
use Rattle.vega_meaning.proofs.DrawnOutcomes.{drawing_is, picture_is}
use Rattle.vega_meaning.proofs.BrushedScenes.{brushed_there}

-- the spans of a specification are those of its stretches
spans_are : (g : VgSpec) → spans_in g.group ≡ map span_of (js_of g)
spans_are g =
    let o = (outline_of g).object in
    let marks = (outline_of g).marks in
    outline_spans g
    ∙ sym (in_object_spanned (is_some o.layout) (top_round o) None None (scales_of_top o)
    (count_marks marks) (spans_of marks) (stretches (top_round o) marks) refl
    (sizes_count marks) (spanned (top_round o) marks))

-- and so are the scales
scales_are : (g : VgSpec) → map text.scaled_of (js_of g) ≡ scaled_of (outline_of g)
scales_are g =
    let o = (outline_of g).object in
    let marks = (outline_of g).marks in
    in_object_scaled (is_some o.layout) (count_marks marks) (top_round o) (stretches (top_round o) marks) _ (scaled (top_round o) marks)

-- a panel of a plot stands where the plot's marks stand
pub record IsPlotAt (g : VgSpec) (plot : PlotOf) (u : ℕ) (j : Stretch) : Type 0 where
  pub facet : plot.facet ≡ j.facet
  pub least : ℕ
  pub first : slice_get plot.units 0 ≡ Some least
  pub scales : scales_at (scaled_of (outline_of g)) least ≡ j.scales

plot_there : (g : VgSpec) (plot : PlotOf) (u : ℕ) (j : Stretch) → plot_with (plots_of g) u ≡ Some plot → stretch_at (js_of g) u ≡ Some j → IsPlotAt g plot u j
plot_there g plot u j is there =
    let at : 0 + u ≡ u = omega arith in
    let has : find (has_unit (0 + u)) (numbered 0 (map span_of (js_of g))) ≡ Some plot =
    ap₂ (λ n spans. find (has_unit n) (numbered 0 spans)) at (sym (spans_are g)) ∙ is in
    let f = found (js_of g) 0 u plot has in
    let same : f.stretch ≡ j = cc (sym f.there ∙ there) in
    let least : 0 + f.least ≡ f.least = omega arith in
    record {
      facet = f.facet ∙ ap (λ (s : Stretch). s.facet) same;
      least = f.least;
      first = f.first ∙ ap Some least;
      scales =
          ap (λ ss. scales_at ss f.least) (sym (scales_are g)) ∙ scales_there (js_of g) f.least
          ∙ ap (λ o. option_map_or (λ (s : Stretch). s.scales) o []) f.same ∙ ap (λ (s : Stretch). s.scales) same;
    }

-- a panel that has a plot has marks
view_there : (plots : List PlotOf) (view : Option ℕ) (plot : PlotOf)
    → (view >>= plot_with plots) ≡ Some plot → (u : ℕ) × (view ≡ Some u) × (plot_with plots u ≡ Some plot)
view_there plots None plot e = absurd (cc e)
view_there plots (Some u) plot e = (u, refl, e)

some_of : {A B : Type 0} (o : Option A) (f : A → Option B) (b : B) → (o >>= f) ≡ Some b → (a : A) × (o ≡ Some a) × (f a ≡ Some b)
some_of None f b e = absurd (cc e)
some_of (Some a) f b e = (a, refl, e)

mapped_some : {A B : Type 0} (f : A → B) (o : Option A) (b : B) → option_map f o ≡ Some b → (a : A) × (o ≡ Some a) × (f a ≡ b)
mapped_some f None b e = absurd (cc e)
mapped_some f (Some a) b e = (a, refl, cc e)

module _ (g : VgSpec) (drawing : Drawing) (d : IsDrawnOf g drawing) where
  abbrev of_chart : List ScaleIn
  of_chart = map (laid_in d.width d.height) d.chart

  -- where a panel with marks stands
  pub record IsAt (index u : ℕ) (panel : Panel) : Type 0 where
    pub here : PanelHere
    pub at : slice_get d.panels index ≡ Some here
    pub same : here.panel ≡ panel
    pub stands : Stands of_chart 0 (js_of g) u here
    pub there : stretch_at (js_of g) u ≡ Some stands.stretch
    pub sound : Each IsSound here.scales

  panel_there : (index u : ℕ) (panel : Panel) → slice_get drawing.scene.panels index ≡ Some panel → panel.view ≡ Some u → IsAt index u panel
  panel_there index u panel is view =
      let among = among_panels d.panels d.legends index panel u d.bare (ap (λ ps. slice_get ps index) (sym d.scene) ∙ is) view in
      let own = each_at (IsPanel of_chart (js_of g)) d.panels index among.0 d.are among.1 in
      let stands = own.1 u (ap (λ (p : Panel). p.view) among.2 ∙ view) in
      let at = stands.at in
      let place : stands.place ≡ u = omega (arith, at) in
      record {
        here = among.0;
        at = among.1;
        same = among.2;
        stands = stands;
        there = subst (λ k. stretch_at (js_of g) k ≡ Some stands.stretch) place stands.there;
        sound = own.0;
      }

  -- the scale of a name there
  drawn_there : (index u : ℕ) (panel : Panel) (at : IsAt index u panel) (name : List ℕ) (scale : Scale) → scale_in drawing.scales index name ≡ Some scale
      → IsScale scale × (is_time scale ≡ is_time_named at.stands.stretch.scales name)
  drawn_there index u panel at name scale e =
      let laid = mapped_some scale_only (drawn_scale of_chart at.here.scales name) scale
      (sym (scale_there d.width d.height d.chart d.panels index name at.here at.at) ∙ ap (λ set. scale_in set index name) (sym d.scales) ∙ e) in
      let sound = either_sound (find (named_in name) at.here.scales) (find (named_in name) of_chart) laid.0
      (λ s is. each_found IsSound (named_in name) at.here.scales s at.sound is) (λ s is. each_found IsSound (named_in name) of_chart s d.sound is) laid.1 in (
        subst IsScale laid.2 sound,
        ap is_time (sym laid.2) ∙ at.stands.is.times name laid.0 laid.1,
      )
    where
      either_sound : (a b : Option ScaleIn) (s : ScaleIn) → ((x : ScaleIn) → a ≡ Some x → IsSound x) → ((x : ScaleIn) → b ≡ Some x → IsSound x)
          → option_or a b ≡ Some s → IsSound s
      either_sound (Some x) b s first second f = first s f
      either_sound None b s first second f = second s f

  facet_there : (index u : ℕ) (panel : Panel) (plot : PlotOf) → IsAt index u panel → plot_with (plots_of g) u ≡ Some plot → IsFacetRow plot.facet panel.facet
  facet_there index u panel plot at is =
      let p = plot_there g plot u at.stands.stretch is at.there in
      subst (λ f. IsFacetRow f panel.facet) (sym p.facet) (subst (λ (x : Panel). IsFacetRow at.stands.stretch.facet x.facet) at.same at.stands.is.facet)

  -- a scale that a drag inverts there
  inverted_there : (index u : ℕ) (panel : Panel) (plot : PlotOf) (s : SelectionOf) (c : DragOf) (scale : Scale) → IsAt index u panel
      → plot_with (plots_of g) u ≡ Some plot → inverts_in g drawing index s.name c.channel ≡ Some scale
      → IsScale scale × (is_time scale ≡ temporal_of g plot s c)
  inverted_there index u panel plot s c scale at is e =
      let p = plot_there g plot u at.stands.stretch is at.there in
      let v = some_of (find (is_named s.name) (selections_of g)) (λ v. inverted_by drawing.scales v index s.name c.channel) scale e in
      let name = some_of (scale_name v.0 c.channel) (scale_in drawing.scales index) scale v.2 in
      let laid = drawn_there index u panel at name.0 scale name.2 in
      let chosen : (find (is_named s.name) (selections_of g) >>= λ v. scale_name v c.channel) ≡ Some name.0 =
      ap (λ o. o >>= λ v. scale_name v c.channel) v.1 ∙ name.1 in (
        laid.0,
        laid.1
            ∙ sym (ap₂ (λ o n. option_map_or (λ unit. option_map_or (is_time_named (scales_at (scaled_of (outline_of g)) unit)) n false) o false) p.first chosen
            ∙ ap (λ scales. is_time_named scales name.0) p.scales),
      )

pub specifications_mean : SpecificationsMean
specifications_mean g rules selections = record {
  apart = (rules_kept g rules).apart;
  selections = All-map IsSelection plain_of (selections_of g) selections.each;
  seen = λ st picture of is.
      let p = picture_is g st picture is in
      let names = drawing_is g (values_of_stores st.stores) st.params st.sources p.drawing p.drawn in
      let d = drawn_of g (rules_kept g rules) st.sources names.0 p.drawing names.1 in
      let old = brushed_there (plots_of g) (inverts_in g p.drawing) st.stores p.drawing.scene picture.scene p.brushed in
      record {
        facets = λ index panel plot there of_plot.
            let was = old index panel there in
            let view = view_there (plots_of g) panel.view plot of_plot in
            let at = panel_there g p.drawing d index view.0 was.old was.there (sym was.view ∙ view.1) in
            subst (IsFacetRow plot.facet) (sym was.facet) (facet_there g p.drawing d index view.0 was.old plot at view.2);
        scales = λ index panel plot s c scale there of_plot inverts.
            let was = old index panel there in
            let view = view_there (plots_of g) panel.view plot of_plot in
            let at = panel_there g p.drawing d index view.0 was.old was.there (sym was.view ∙ view.1) in
            inverted_there g p.drawing d index view.0 was.old plot s c scale at view.2
            (ap (λ (f : ℕ → List ℕ → List ℕ → Option Scale). f index s.name c.channel) (sym p.inverts) ∙ inverts);
      };
}

pub drawn_scales_are_sound : DrawnScalesAreSound
drawn_scales_are_sound g stores params sources drawing rules is =
    let names = drawing_is g stores params sources drawing is in
    scales_sound g drawing (drawn_of g (rules_kept g rules) sources names.0 drawing names.1)
