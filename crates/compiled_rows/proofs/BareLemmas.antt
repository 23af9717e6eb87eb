-- What stands in objects of a compiled specification adds no signal and no data set.
use Rattle.std.proofs.Common.{◌≡◌, ℕ, Option, Some, None, List, [], ◌∷◌, map, refl, sym, ap, subst}
use Rattle.std.specs.Prelude.{slice_get}
use Rattle.std.specs.Option.{option_map_or}
use Rattle.plan_kit.specs.declared.plans.UnitPlan.{UnitPlan}
use Rattle.plan_kit.specs.declared.grids.FacetPlan.{FacetPlan}
use Rattle.plan_kit.specs.declared.grids.GridPlan.{GridPlan}
use Rattle.plan_kit.specs.declared.plan.Plan.{Plan}
use Rattle.plan_kit.specs.declared.plots.PlotPlan.{PlotPlan}
use Rattle.plan_kit.specs.declared.views.ViewPlan.{ViewPlan, ViewPlan-F, fold-roll-ViewPlan, ind-ViewPlan, map-ViewPlan, roll-ViewPlan}
use Rattle.plan_kit.specs.declared.views.ViewPlan.TheOpen as level
use Rattle.vega_assemble.specs.Made.{AGroup, AMark, Made, MadeView, NoMarks}
use Rattle.vega_assemble.specs.Marks.{in_series, unit_before}
use Rattle.vega_assemble.specs.Views.{View, faceted, grid_made, held_by, joined, no_view, nothing_held, plot_made, units_made, view_here, view_made}

-- ---- marks and views

abbrev pub IsBare : Made → Type 0
IsBare NoMarks = Unit {0}
IsBare (AMark m others) = IsBare others
IsBare (AGroup o inside others) = (o.sets ≡ []) × (o.signals ≡ []) × IsBare inside × IsBare others

abbrev pub IsBareView : MadeView → Type 0
IsBareView v = (v.object.sets ≡ []) × (v.object.signals ≡ []) × IsBare v.marks

abbrev Every : List View → Type 0
Every [] = Unit {0}
Every (v ∷ vs) = ((held : _) → IsBareView (v held)) × Every vs

joined_bare : (views : List View) → Every views → IsBare (joined views)
joined_bare [] h = tt
joined_bare (v ∷ views) h = ((h.0 nothing_held).0, (h.0 nothing_held).1, (h.0 nothing_held).2, joined_bare views h.1)

module _ (stem : List ℕ) (p : Plan) where
  unit_bare : (u : UnitPlan) (series : List (List ℕ)) (others : Made) → IsBare others → IsBare (in_series stem p.scales u series others)
  unit_bare u [] others h = h
  unit_bare u (first ∷ more) others h = (refl, refl, tt, h)

  found_bare : (o : Option UnitPlan) (others : Made) → IsBare others → IsBare (option_map_or (λ u. unit_before stem p.scales u others) o others)
  found_bare None others h = h
  found_bare (Some u) others h = unit_bare u u.mark.series others h

  units_bare : (numbers : List ℕ) → IsBare (units_made stem p numbers)
  units_bare [] = tt
  units_bare (n ∷ numbers) = found_bare (slice_get p.units n) (units_made stem p numbers) (units_bare numbers)

  plot_bare : (o : Option PlotPlan) (held : _) → IsBareView (option_map_or (λ plot. plot_made stem p plot held) o no_view)
  plot_bare None held = (refl, refl, tt)
  plot_bare (Some plot) held = (refl, refl, units_bare plot.units)

  faceted_bare : (grid : GridPlan) (f : FacetPlan) (views : List View) → Every views → IsBare (faceted stem p grid f views)
  faceted_bare grid f [] h = tt
  faceted_bare grid f (v ∷ views) h =
      let own = h.0 (held_by stem p.scales (Some grid.number)) in (own.0, own.1, own.2, tt)

  cells_bare : (grid : GridPlan) (o : Option FacetPlan) (views : List View) → Every views
      → IsBare (option_map_or (λ f. faceted stem p grid f views) o (joined views))
  cells_bare grid None views h = joined_bare views h
  cells_bare grid (Some f) views h = faceted_bare grid f views h

  grid_bare : (o : Option GridPlan) (views : List View) → Every views → (held : _)
      → IsBareView (option_map_or (λ grid. grid_made stem p views grid held) o no_view)
  grid_bare None views h held = (refl, refl, tt)
  grid_bare (Some grid) views h held = (refl, refl, cells_bare grid grid.facet views h)

  abbrev IsAlone : ViewPlan → Type 0
  IsAlone v = (held : _) → IsBareView (view_made stem p v held)

  module _ {X : Type 0} (part : X → ViewPlan) (alone : (x : X) → IsAlone (part x)) where
    every_one : (xs : List X) → Every (map (view_made stem p) (map part xs))
    every_one [] = tt
    every_one (x ∷ xs) = (alone x, every_one xs)

    step_alone : (y : ViewPlan-F X) → IsAlone (roll-ViewPlan (map-ViewPlan X ViewPlan part y))
    step_alone (level.Plot place) held =
        let z : ViewPlan-F ViewPlan = level.Plot place in
        subst IsBareView (sym (ap (λ (w : View). w held) (fold-roll-ViewPlan View (view_here stem p) z))) (plot_bare (slice_get p.plots place) held)
    step_alone (level.Grid place xs) held =
        let z : ViewPlan-F ViewPlan = level.Grid place (map part xs) in
        subst IsBareView (sym (ap (λ (w : View). w held) (fold-roll-ViewPlan View (view_here stem p) z)))
        (grid_bare (slice_get p.grids place) (map (view_made stem p) (map part xs)) (every_one xs) held)

  pub all_bare : (v : ViewPlan) → IsAlone v
  all_bare = ind-ViewPlan IsAlone (λ x y is. subst (λ z. IsAlone (roll-ViewPlan z)) is (step_alone (λ e. e.0) (λ e. e.1) y))
