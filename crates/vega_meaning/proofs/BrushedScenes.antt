-- Brushes change the items of panels alone.
use Rattle.std.proofs.Common.{◌≡◌, ℕ, zero, suc, ◌+◌, Bool, true, false, cond, Option, Some, None, List, [], ◌∷◌, ◌++◌, map, refl, sym, ap, subst, ◌∙◌}
use Rattle.std.specs.Prelude.{slice_get, ◌==◌}
use Rattle.std.specs.Option.{option_map}
use Rattle.std.specs.List.{enumerate_from}
use Rattle.fixed_num.specs.Ranges.{◌>>=◌}
use Rattle.cell_value.specs.declared.state.Extent.{Extent}
use Rattle.cell_value.specs.declared.state.StoreOf.{StoreOf}
use Rattle.scene_tree.specs.declared.scene.Item.{Item}
use Rattle.scene_tree.specs.declared.scene.Panel.{Panel}
use Rattle.scene_tree.specs.declared.scene.Scene.{Scene}
use Rattle.selection_events.specs.declared.selection.PlotOf.{PlotOf}
use Rattle.selection_events.specs.Brushes.{brush_in, brushed_at, brushed_with, panel_with, panels_with, with_extents_of, with_brush, all_brushed, with_brushes}
use Rattle.selection_events.specs.Events.{Inverts}

-- a panel stands where another of the same plot and the same facet row stood
pub record WasThere (before : List Panel) (k : ℕ) (panel : Panel) : Type 0 where
  pub old : Panel
  pub there : slice_get before k ≡ Some old
  pub view : panel.view ≡ old.view
  pub facet : panel.facet ≡ old.facet

abbrev pub AreThere : List Panel → List Panel → Type 0
AreThere before after = (k : ℕ) (panel : Panel) → slice_get after k ≡ Some panel → WasThere before k panel

there_before : (panels : List Panel) → AreThere panels panels
there_before panels k panel is = record { old = panel; there = is; view = refl; facet = refl }

there_through : (a b c : List Panel) → AreThere a b → AreThere b c → AreThere a c
there_through a b c first second k panel is =
    let later = second k panel is in
    let sooner = first k later.old later.there in
    record { old = sooner.old; there = sooner.there; view = later.view ∙ sooner.view; facet = later.facet ∙ sooner.facet }

same_view : (item : Item) (panel : Panel) (b : Bool) → (cond b (record panel { items = panel.items ++ item ∷ [] }) panel).view ≡ panel.view
same_view item panel true = refl
same_view item panel false = refl

same_facet : (item : Item) (panel : Panel) (b : Bool) → (cond b (record panel { items = panel.items ++ item ∷ [] }) panel).facet ≡ panel.facet
same_facet item panel true = refl
same_facet item panel false = refl

panels_there : (index : ℕ) (item : Item) (n : ℕ) (panels : List Panel) (k : ℕ) (panel : Panel)
    → slice_get (map (panel_with index item) (enumerate_from n panels)) k ≡ Some panel → WasThere panels k panel
panels_there index item n [] k panel is = absurd (cc is)
panels_there index item n (p ∷ ps) zero panel is =
    let same : panel_with index item (n, p) ≡ panel = cc is in
    record {
      old = p;
      there = refl;
      view = ap (λ (x : Panel). x.view) (sym same) ∙ same_view item p (n == index);
      facet = ap (λ (x : Panel). x.facet) (sym same) ∙ same_facet item p (n == index);
    }
panels_there index item n (p ∷ ps) (suc k) panel is =
    let later = panels_there index item (n + 1) ps k panel is in
    record { old = later.old; there = later.there; view = later.view; facet = later.facet }

module _ (plots : List PlotOf) (scale : Inverts) where
  with_item : (panels after : List Panel) (index : ℕ) (o : Option Item) → option_map (panels_with panels index) o ≡ Some after → AreThere panels after
  with_item panels after index None e = absurd (cc e)
  with_item panels after index (Some item) e =
      let same : panels_with panels index item ≡ after = cc e in subst (AreThere panels) same (panels_there index item 0 panels)

  with_place : (panels after : List Panel) (store : StoreOf) (o : Option (ℕ × Panel)) → brushed_with scale panels store o ≡ Some after → AreThere panels after
  with_place panels after store None e = let same : panels ≡ after = cc e in subst (AreThere panels) same (there_before panels)
  with_place panels after store (Some p) e = with_item panels after p.0 (brush_in scale store p) e

  one_brushed : (panels after : List Panel) (store : StoreOf) (extents : List Extent) → with_extents_of plots scale panels store extents ≡ Some after
      → AreThere panels after
  one_brushed panels after store [] e = let same : panels ≡ after = cc e in subst (AreThere panels) same (there_before panels)
  one_brushed panels after store (x ∷ xs) e = with_place panels after store (brushed_at plots panels store) e

  all_there : (stores : List StoreOf) (panels after : List Panel) → all_brushed plots scale stores panels ≡ Some after → AreThere panels after
  all_there [] panels after e = let same : panels ≡ after = cc e in subst (AreThere panels) same (there_before panels)
  all_there (store ∷ stores) panels after e = by_first (with_brush plots scale store panels) refl e (λ mid f. all_there stores mid after f)
    where
      by_first : (o : Option (List Panel)) → with_brush plots scale store panels ≡ o → (o >>= all_brushed plots scale stores) ≡ Some after
          → ((mid : List Panel) → all_brushed plots scale stores mid ≡ Some after → AreThere mid after) → AreThere panels after
      by_first None is f rest = absurd (cc f)
      by_first (Some mid) is f rest = there_through panels mid after (one_brushed panels mid store store.extents is) (rest mid f)

  abbrev scene_of : Scene → List Panel → Scene
  scene_of scene panels = record { width = scene.width; height = scene.height; panels = panels }

  -- the panels of a scene with brushes
  pub brushed_there : (stores : List StoreOf) (scene after : Scene) → with_brushes plots scale stores scene ≡ Some after → AreThere scene.panels after.panels
  brushed_there stores scene after e = by_panels (all_brushed plots scale stores scene.panels) refl e
    where
      by_panels : (o : Option (List Panel)) → all_brushed plots scale stores scene.panels ≡ o
          → option_map (scene_of scene) o ≡ Some after → AreThere scene.panels after.panels
      by_panels None is f = absurd (cc f)
      by_panels (Some panels) is f =
          let same : scene_of scene panels ≡ after = cc f in
          subst (λ (s : Scene). AreThere scene.panels s.panels) same (all_there stores scene.panels panels is)
