-- What is drawn of a specification: its panels are those of its plots, and its scales are such as callers ask for.
use Rattle.std.proofs.Common.{◌≡◌, ◌≢◌, ℕ, zero, suc, ◌+◌, ◌<◌, ◌&&◌, Bool, true, false, cond, Option, Some, None, List, [], ◌∷◌, ◌++◌, map}
use Rattle.std.proofs.Common.{refl, sym, ap, ap₂, subst, ◌∙◌, arith}
use Rattle.std.specs.Prelude.{ℤ, find, flat_map, slice_get, ◌==◌}
use Rattle.std.specs.Option.{option_map, option_or}
use Rattle.std.specs.List.{All, enumerate_from}
use Rattle.std.specs.Str.{bytes_eq}
use Rattle.std.proofs.lemmas.Bool.{false_from_ne_true}
use Rattle.std.proofs.lemmas.Bool.Decides.{Decides-eqb}
use Rattle.std.proofs.lemmas.List.Elements.{All-nil, All-cons}
use Rattle.std.proofs.lemmas.List.Folds.{find-append}
use Rattle.fixed_num.specs.Ranges.{◌>>=◌}
use Rattle.cell_value.specs.State.{Dataset}
use Rattle.scale_kit.specs.declared.scale.Scale.{Scale}
use Rattle.scale_kit.specs.declared.scale.ScaleIn.{ScaleIn}
use Rattle.scale_kit.specs.Scale.{AreScales}
use Rattle.scene_tree.specs.declared.scene.Panel.{Panel}
use Rattle.guide_kit.specs.declared.legends.Block.{Block}
use Rattle.view_layout.specs.declared.boxes.PlaceOf.{PlaceOf}
use Rattle.plot_scenes.specs.declared.contents.Content.{Content}
use Rattle.plot_scenes.specs.declared.scenes.Drawing.{Drawing}
use Rattle.plot_scenes.specs.declared.views.PanelHere.{PanelHere}
use Rattle.plot_scenes.specs.declared.views.Part.{Part}
use Rattle.plot_scenes.specs.declared.views.Part.TheVariants.{Title, OfPlot}
use Rattle.plot_scenes.specs.declared.views.Placed.{Placed}
use Rattle.guide_kit.specs.Measures.{plus}
use Rattle.view_layout.specs.Layout.{layout_with_titles_of}
use Rattle.plot_scenes.specs.Lengths.{gap}
use Rattle.plot_scenes.specs.Contents.{panel_at, panels_at, content_of}
use Rattle.plot_scenes.specs.Legends.{blocks_of}
use Rattle.plot_scenes.specs.Panels.{legend_panels, next_top}
use Rattle.plot_scenes.specs.Scenes.{panels_in, scale_at, scales_at, drawn, drawing_with}
use Rattle.vega_spec.specs.declared.spec.VgSpec.{VgSpec}
use Rattle.vega_copies.specs.Outlines.{Opened, opened, outline_of, count_marks}
use Rattle.vega_copies.specs.Scopes.{Names}
use Rattle.vega_copies.specs.Facts.{CopyFound, facts_of}
use Rattle.vega_copies.specs.inner.Kept.{KeepsAll}
use Rattle.vega_copies.proofs.OutlineLemmas.{opened_object}
use Rattle.vega_drawing.specs.Drawings.{scales_of_chart, drawn_from_facts}
use Rattle.vega_drawing.specs.Frames.{Frame}
use Rattle.vega_drawing.specs.Scales.{ScaleHere, scale_in}
use Rattle.vega_drawing.specs.Sizes.{padding_round}
use Rattle.vega_drawing.specs.Tops.{top_frame}
use Rattle.vega_drawing.specs.Views.{view_of}
use Rattle.vega_events.specs.Scales.{is_of_panel, is_of_chart}
use Rattle.vega_events.specs.Scales as events
use Rattle.vega_charts.specs.Items.{items_in_copy}
use Rattle.vega_charts.specs.Scenes.{drawing_over}
use Rattle.vega_meaning.proofs.Stretches.{Stretch, own_fields, in_object, stretches}
use Rattle.vega_meaning.proofs.DrawnFacts.{Each, each_weaker, each-append, each-map, FoundIs, top_is}
use Rattle.vega_meaning.proofs.DrawnFrames.{IsKeptHere, each-filter, top_round, chart_scales, IsTop, top_frame_is}
use Rattle.vega_meaning.proofs.DrawnParts.{numbered_is, named_in, drawn_scale, IsSound, laid_sound, Stands, IsPart, IsView, top_view}

-- ---- panels

-- what is asked of each panel
abbrev pub IsPanel : List ScaleIn → List Stretch → PanelHere → Type 0
IsPanel of_chart js p = Each IsSound p.scales × ((u : ℕ) → p.panel.view ≡ Some u → Stands of_chart 0 js u p)

part_panel : (of_chart : List ScaleIn) (js : List Stretch) (padding : ℤ) (place : PlaceOf) (part : Part) → IsPart of_chart 0 js part
    → IsPanel of_chart js (panel_at padding place part)
part_panel of_chart js padding place (Title t) h = (tt, λ u view. absurd (cc view))
part_panel of_chart js padding place (OfPlot here) h = (
  h.0,
  λ u view. let s = h.1 u view in
      record { place = s.place; at = s.at; stretch = s.stretch; there = s.there; is = record { facet = s.is.facet; times = s.is.times } },
)

placed_panels : (of_chart : List ScaleIn) (js : List Stretch) (padding : ℤ) (parts : List Part) (places : List PlaceOf) → Each (IsPart of_chart 0 js) parts
    → Each (IsPanel of_chart js) (panels_at padding parts places)
placed_panels of_chart js padding [] places h = tt
placed_panels of_chart js padding (part ∷ parts) [] h = tt
placed_panels of_chart js padding (part ∷ parts) (place ∷ places) h =
    (part_panel of_chart js padding place part h.0, placed_panels of_chart js padding parts places h.1)

legends_bare : (x y : ℤ) (blocks : List Block) → Each (λ (p : Panel). p.view ≡ None) (legend_panels x y blocks)
legends_bare x y [] = tt
legends_bare x y (b ∷ bs) = (refl, legends_bare x (next_top y b) bs)

-- where a panel with marks stands among all
in_none : (legends : List Panel) (k : ℕ) (panel : Panel) (u : ℕ) → Each (λ (p : Panel). p.view ≡ None) legends → slice_get legends k ≡ Some panel
    → panel.view ≡ Some u → ⊥
in_none [] k panel u bare is view = absurd (cc is)
in_none (p ∷ ps) zero panel u bare is view =
    let same : p ≡ panel = cc is in absurd (cc (sym bare.0 ∙ ap (λ (x : Panel). x.view) same ∙ view))
in_none (p ∷ ps) (suc k) panel u bare is view = in_none ps k panel u bare.1 is view

pub among_panels : (ps : List PanelHere) (legends : List Panel) (k : ℕ) (panel : Panel) (u : ℕ) → Each (λ (p : Panel). p.view ≡ None) legends
    → slice_get (panels_in ps ++ legends) k ≡ Some panel → panel.view ≡ Some u → (here : PanelHere) × (slice_get ps k ≡ Some here) × (here.panel ≡ panel)
among_panels [] legends k panel u bare is view = absurd (in_none legends k panel u bare is view)
among_panels (p ∷ ps) legends zero panel u bare is view = (p, refl, cc is)
among_panels (p ∷ ps) legends (suc k) panel u bare is view = among_panels ps legends k panel u bare is view

pub each_at : {X : Type 0} (P : X → Type 0) (xs : List X) (k : ℕ) (x : X) → Each P xs → slice_get xs k ≡ Some x → P x
each_at P [] k x h is = absurd (cc is)
each_at P (y ∷ ys) zero x h is = let same : y ≡ x = cc is in subst P same h.0
each_at P (y ∷ ys) (suc k) x h is = each_at P ys k x h.1 is

-- ---- scales

pub all_of_each : {X : Type 0} (P : X → Type 0) (xs : List X) → Each P xs → All P xs
all_of_each P [] h = All-nil P
all_of_each P (x ∷ xs) h = All-cons P x xs h.0 (all_of_each P xs h.1)

abbrev pub of_panels : ℕ → List PanelHere → List ScaleIn
of_panels n ps = flat_map scales_at (enumerate_from n ps)

panels_sound : (n : ℕ) (ps : List PanelHere) → Each (λ (p : PanelHere). Each IsSound p.scales) ps → Each IsSound (of_panels n ps)
panels_sound n [] h = tt
panels_sound n (p ∷ ps) h =
    each-append IsSound (scales_at (n, p)) (of_panels (n + 1) ps) (each-map IsSound (scale_at n) p.scales h.0) (panels_sound (n + 1) ps h.1)

other_number : (a b : ℕ) → a ≢ b → (a == b) ≡ false
other_number a b h = false_from_ne_true (a == b) (λ e. h ((Decides-eqb a b).0 e))

same_number : (a b : ℕ) → a ≡ b → (a == b) ≡ true
same_number a b e = (Decides-eqb a b).1 e

-- the scales of another panel
other_panel : (m n : ℕ) (name : List ℕ) (scales : List ScaleIn) → m ≢ n → find (is_of_panel n name) (map (scale_at m) scales) ≡ None
other_panel m n name [] h = refl
other_panel m n name (s ∷ ss) h =
    ap (λ b. cond (b && bytes_eq s.name name) (Some (scale_at m s)) (find (is_of_panel n name) (map (scale_at m) ss))) (other_number m n h)
    ∙ other_panel m n name ss h

-- those of this one
this_panel : (m n : ℕ) (name : List ℕ) (scales : List ScaleIn) → m ≡ n
    → find (is_of_panel n name) (map (scale_at m) scales) ≡ option_map (scale_at m) (find (named_in name) scales)
this_panel m n name [] h = refl
this_panel m n name (s ∷ ss) h =
    ap (λ b. cond (b && bytes_eq s.name name) (Some (scale_at m s)) (find (is_of_panel n name) (map (scale_at m) ss))) (same_number m n h)
    ∙ by_test (bytes_eq s.name name) (this_panel m n name ss h)
  where
    by_test : (b : Bool) → find (is_of_panel n name) (map (scale_at m) ss) ≡ option_map (scale_at m) (find (named_in name) ss)
        → cond (true && b) (Some (scale_at m s)) (find (is_of_panel n name) (map (scale_at m) ss))
        ≡ option_map (scale_at m) (cond b (Some s) (find (named_in name) ss))
    by_test true rest = refl
    by_test false rest = rest

-- panels behind it have none of it
behind_panel : (m n : ℕ) (name : List ℕ) (ps : List PanelHere) → m < n → find (is_of_panel m name) (of_panels n ps) ≡ None
behind_panel m n name [] h = refl
behind_panel m n name (p ∷ ps) h =
    find-append (is_of_panel m name) (scales_at (n, p)) (of_panels (n + 1) ps)
    ∙ ap₂ option_or (other_panel n m name p.scales (λ e. absurd (omega (arith, e, h)))) (behind_panel m (n + 1) name ps (omega (arith, h)))

or_none : {X : Type 0} (o : Option X) → option_or o None ≡ o
or_none None = refl
or_none (Some x) = refl

abbrev pub scale_only : ScaleIn → Scale
scale_only s = s.scale

scale_kept : (m : ℕ) (o : Option ScaleIn) → option_map scale_only (option_map (scale_at m) o) ≡ option_map scale_only o
scale_kept m None = refl
scale_kept m (Some s) = refl

-- the scale of a name in a panel
of_its_panel : (n k : ℕ) (name : List ℕ) (ps : List PanelHere) (here : PanelHere) → slice_get ps k ≡ Some here
    → option_map scale_only (find (is_of_panel (n + k) name) (of_panels n ps)) ≡ option_map scale_only (find (named_in name) here.scales)
of_its_panel n k name [] here is = absurd (cc is)
of_its_panel n zero name (p ∷ ps) here is =
    let same : p ≡ here = cc is in
    let at : n ≡ n + zero = omega arith in
    ap (option_map scale_only) (find-append (is_of_panel (n + zero) name) (scales_at (n, p)) (of_panels (n + 1) ps)
    ∙ ap₂ option_or (this_panel n (n + zero) name p.scales at) (behind_panel (n + zero) (n + 1) name ps (omega arith))
    ∙ or_none (option_map (scale_at n) (find (named_in name) p.scales)))
    ∙ scale_kept n (find (named_in name) p.scales)
    ∙ ap (λ (x : PanelHere). option_map scale_only (find (named_in name) x.scales)) same
of_its_panel n (suc k) name (p ∷ ps) here is =
    let at : (n + 1) + k ≡ n + suc k = omega arith in
    ap (option_map scale_only) (find-append (is_of_panel (n + suc k) name) (scales_at (n, p)) (of_panels (n + 1) ps)
    ∙ ap (λ o. option_or o (find (is_of_panel (n + suc k) name) (of_panels (n + 1) ps)))
    (other_panel n (n + suc k) name p.scales (λ e. absurd (omega (arith, e)))))
    ∙ subst (λ m. option_map scale_only (find (is_of_panel m name) (of_panels (n + 1) ps)) ≡ option_map scale_only (find (named_in name) here.scales)) at
    (of_its_panel (n + 1) k name ps here is)

-- the scales of the whole chart belong to no panel
none_of_panel : (width height : ℤ) (m : ℕ) (name : List ℕ) (scales : List ScaleHere) → find (is_of_panel m name) (map (scale_in width height) scales) ≡ None
none_of_panel width height m name [] = refl
none_of_panel width height m name (s ∷ ss) = none_of_panel width height m name ss

all_of_chart : (width height : ℤ) (name : List ℕ) (scales : List ScaleHere)
    → find (is_of_chart name) (map (scale_in width height) scales) ≡ find (named_in name) (map (scale_in width height) scales)
all_of_chart width height name [] = refl
all_of_chart width height name (s ∷ ss) =
    ap (λ o. cond (bytes_eq s.scale.name name) (Some (scale_in width height s)) o) (all_of_chart width height name ss)

none_of_chart : (n : ℕ) (name : List ℕ) (ps : List PanelHere) → find (is_of_chart name) (of_panels n ps) ≡ None
none_of_chart n name [] = refl
none_of_chart n name (p ∷ ps) =
    find-append (is_of_chart name) (scales_at (n, p)) (of_panels (n + 1) ps) ∙ ap₂ option_or (of_panel_alone p.scales) (none_of_chart (n + 1) name ps)
  where
    of_panel_alone : (scales : List ScaleIn) → find (is_of_chart name) (map (scale_at n) scales) ≡ None
    of_panel_alone [] = refl
    of_panel_alone (s ∷ ss) = of_panel_alone ss

or-map : {X Y : Type 0} (f : X → Y) (a b : Option X) → option_map f (option_or a b) ≡ option_or (option_map f a) (option_map f b)
or-map f None b = refl
or-map f (Some x) b = refl

-- the scale of a name in a panel is the one that is drawn there
pub scale_there : (width height : ℤ) (chart : List ScaleHere) (ps : List PanelHere) (k : ℕ) (name : List ℕ) (here : PanelHere) → slice_get ps k ≡ Some here
    → events.scale_in (record { scales = map (scale_in width height) chart ++ of_panels 0 ps }) k name
    ≡ option_map scale_only (drawn_scale (map (scale_in width height) chart) here.scales name)
scale_there width height chart ps k name here is =
    let of_chart = map (scale_in width height) chart in
    let at : 0 + k ≡ k = omega arith in
    or-map scale_only (find (is_of_panel k name) (of_chart ++ of_panels 0 ps)) (find (is_of_chart name) (of_chart ++ of_panels 0 ps))
    ∙ ap₂ option_or
    (ap (option_map scale_only) (find-append (is_of_panel k name) of_chart (of_panels 0 ps)
    ∙ ap (λ o. option_or o (find (is_of_panel k name) (of_panels 0 ps))) (none_of_panel width height k name chart))
    ∙ subst (λ m. option_map scale_only (find (is_of_panel m name) (of_panels 0 ps)) ≡ option_map scale_only (find (named_in name) here.scales)) at
    (of_its_panel 0 k name ps here is))
    (ap (option_map scale_only) (find-append (is_of_chart name) of_chart (of_panels 0 ps)
    ∙ ap₂ option_or (all_of_chart width height name chart) (none_of_chart 0 name ps) ∙ or_none (find (named_in name) of_chart)))
    ∙ sym (or-map scale_only (find (named_in name) here.scales) (find (named_in name) of_chart))

-- ---- a drawing

-- the stretches of a specification
abbrev pub js_of : VgSpec → List Stretch
js_of g =
    in_object (outline_of g).object (count_marks (outline_of g).marks) (top_round (outline_of g).object)
    (stretches (top_round (outline_of g).object) (outline_of g).marks)

-- What is drawn, by its panels and the scales of the whole chart.
pub record IsDrawnOf (g : VgSpec) (drawing : Drawing) : Type 0 where
  pub width : ℤ
  pub height : ℤ
  pub chart : List ScaleHere
  pub panels : List PanelHere
  pub legends : List Panel
  pub bare : Each (λ (p : Panel). p.view ≡ None) legends
  pub scene : drawing.scene.panels ≡ panels_in panels ++ legends
  pub scales : drawing.scales ≡ record { scales = map (scale_in width height) chart ++ of_panels 0 panels }
  pub sound : Each IsSound (map (scale_in width height) chart)
  pub are : Each (IsPanel (map (scale_in width height) chart) (js_of g)) panels

-- the object of the top has no facet
no_facet : (g : VgSpec) → own_fields (outline_of g).object ≡ None
no_facet g = ap own_fields (opened_object g.group)

first_some : {A B : Type 0} (o : Option A) (f : A → Option B) (b : B) → (o >>= f) ≡ Some b → (a : A) × (o ≡ Some a) × (f a ≡ Some b)
first_some None f b e = absurd (cc e)
first_some (Some a) f b e = (a, refl, e)

module _ (g : VgSpec) (keeps : KeepsAll g) where
  abbrev top : Opened
  top = outline_of g

  of_view : (frame : Frame) (view : Placed) (drawing : Drawing) → Each IsSound (scales_of_chart frame)
      → IsView (scales_of_chart frame) 0 (js_of g) view → (blocks : Option (List Block))
      → option_map (drawn (padding_round g.padding) (scales_of_chart frame) (content_of (padding_round g.padding) view)) blocks
      ≡ Some drawing → IsDrawnOf g drawing
  of_view frame view drawing sound parts None e = absurd (cc e)
  of_view frame view drawing sound parts (Some blocks) e =
      let padding : ℤ = padding_round g.padding in
      let content : Content = content_of padding view in
      let same : drawn padding (scales_of_chart frame) content blocks ≡ drawing = cc e in
      subst (IsDrawnOf g) same (record {
        width = frame.width;
        height = frame.height;
        chart = chart_scales frame.scales;
        panels = content.panels;
        legends = legend_panels (plus (plus padding content.width) gap) padding blocks;
        bare = legends_bare (plus (plus padding content.width) gap) padding blocks;
        scene = refl;
        scales = refl;
        sound = sound;
        are = placed_panels (scales_of_chart frame) (js_of g) padding view.parts (layout_with_titles_of view.boxes).places parts;
      })

  of_frame : (found : CopyFound) (frame : Frame) (drawing : Drawing) → FoundIs top.marks found.inside → IsTop top.object frame
      → (view_of items_in_copy top.object top.marks found.inside frame >>= λ view.
      drawing_with (padding_round g.padding) (scales_of_chart frame) view) ≡ Some drawing → IsDrawnOf g drawing
  of_frame found frame drawing inside is e =
      let kept = each-filter IsKeptHere (λ (s : ScaleHere). s.is_of_chart) frame.scales is.copy.is.kept in
      let view = first_some (view_of items_in_copy top.object top.marks found.inside frame) (λ view.
      drawing_with (padding_round g.padding) (scales_of_chart frame) view) drawing e in
      let parts = top_view items_in_copy (chart_scales frame.scales) frame.width frame.height
      kept top.object top.marks found.inside (top_round top.object) frame view.0
      (numbered_is 0 1 (opened g.group).marks) keeps.marks inside is.copy view.1 in
      of_view frame view.0 drawing (laid_sound frame.width frame.height is.pixels.0 is.pixels.1 (chart_scales frame.scales) kept)
      parts (blocks_of view.0.legends) view.2

  -- what is drawn over names
  pub drawn_of : (sources : List Dataset) (names : Names) (drawing : Drawing) → drawing_over g sources top names ≡ Some drawing → IsDrawnOf g drawing
  drawn_of sources names drawing e =
      let found = first_some (facts_of sources top.object top.marks names) (drawn_from_facts items_in_copy g top) drawing e in
      let are = top_is sources top.object top.marks names found.0 (no_facet g) found.1 in
      let frame = first_some (top_frame g.width g.height top.object found.0.facts) (λ frame.
      view_of items_in_copy top.object top.marks found.0.inside frame >>= λ view.
      drawing_with (padding_round g.padding) (scales_of_chart frame) view) drawing found.2 in
      of_frame found.0 frame.0 drawing are.1
      (top_frame_is top.object found.0.facts keeps.top are.0 (no_facet g) g.width g.height frame.0 keeps.width keeps.height frame.1) frame.2

-- its scales are such as callers ask for
pub scales_sound : (g : VgSpec) (drawing : Drawing) → IsDrawnOf g drawing → AreScales drawing.scales
scales_sound g drawing d =
    subst AreScales (sym d.scales)
    (all_of_each IsSound (map (scale_in d.width d.height) d.chart ++ of_panels 0 d.panels)
    (each-append IsSound (map (scale_in d.width d.height) d.chart) (of_panels 0 d.panels) d.sound
    (panels_sound 0 d.panels (each_weaker (IsPanel (map (scale_in d.width d.height) d.chart) (js_of g))
    (λ (p : PanelHere). Each IsSound p.scales) (λ p h. h.0) d.panels d.are))))
