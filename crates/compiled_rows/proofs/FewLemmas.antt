-- Why a specification that a machine holds has a small plan.
use Rattle.std.proofs.Common.{◌≡◌, refl, ◌∙◌, ℕ, zero, suc, ◌+◌, ◌^◌, ◌<◌, ◌≤◌, Bool, true, false, if◌then◌else◌, Option, Some, None, List, [], ◌∷◌, All}
use Rattle.std.proofs.Common.{IfSome, arith, filter, length, map}
use Rattle.std.specs.List.{enumerate_from}
use Rattle.std.proofs.lemmas.List.Elements.{All-nil, All-cons, All-head, All-tail}
use Rattle.vl_spec.specs.declared.spec.VlSpec.{VlSpec}
use Rattle.vl_compose.specs.Rounds.{Round, rounds_of}
use Rattle.vl_compose.specs.Units.{UnitAt, ends_in_unit, unit_at, units_of}
use Rattle.vl_normalize.specs.Normal.{normal_form}
use Rattle.plan_kit.specs.declared.plans.UnitPlan.{UnitPlan}
use Rattle.plan_kit.specs.declared.grids.FacetPlan.{FacetPlan}
use Rattle.plan_kit.specs.declared.grids.GridPlan.{GridPlan}
use Rattle.chart_plan.specs.Plan.{all_scales, plan_of, unit_by}
use Rattle.compiled_rows.specs.Lists.{FewViewsHaveFewUnits, IsSmallFacet, IsSmallGrid, PlansAreSmall, Rises}
use Rattle.compiled_rows.specs.Names.{IsPlace}
use Rattle.compiled_rows.proofs.FacetLemmas.{facet_units_rise}
use Rattle.compiled_rows.proofs.FitLemmas.{length_mapped}
use Rattle.compiled_rows.proofs.GridLemmas.{grid_numbers_rise}
use Rattle.compiled_rows.proofs.PlaceLemmas.{enumerated}
use Rattle.compiled_rows.proofs.StandLemmas.{CountUp, units_count}

-- ---- units

fewer : {X : Type 0} (test : X → Bool) (xs : List X) → length (filter test xs) ≤ length xs
fewer test [] = omega arith
fewer test (x ∷ xs) = by (test x) (fewer test xs)
  where
    by : (b : Bool) → length (filter test xs) ≤ length xs → length (if b then x ∷ filter test xs else filter test xs) ≤ suc (length xs)
    by true less = omega (arith, less)
    by false less = omega (arith, less)

all_places : (n : ℕ) (us : List UnitPlan) → CountUp n us → n + length us ≤ 2 ^ 64 → All (λ (u : UnitPlan). IsPlace u.number) us
all_places n [] up few = All-nil (λ (u : UnitPlan). IsPlace u.number)
all_places n (u ∷ us) up few =
    let here : n ≡ u.number = omega (arith, up zero u refl) in
    All-cons (λ (v : UnitPlan). IsPlace v.number) u us (omega (arith, here, few))
    (all_places (n + 1) us (λ k v e. up (suc k) v e ∙ omega arith) (omega (arith, few)))

few_units : (s : VlSpec) → length (plan_of s).units ≤ length (rounds_of (normal_form s))
few_units s =
    counted (normal_form s) (unit_by (normal_form s).params (all_scales (normal_form s) (units_of (normal_form s)))) (rounds_of (normal_form s))
  where
    counted : (n : VlSpec) (f : UnitAt → UnitPlan) (rounds : List Round)
        → length (map f (map (λ (m : ℕ × Round). unit_at m.0 m.1) (enumerate_from 0 (filter ends_in_unit rounds)))) ≤ length rounds
    counted n f rounds =
        omega (
          arith,
          length_mapped f (map (λ (m : ℕ × Round). unit_at m.0 m.1) (enumerate_from 0 (filter ends_in_unit rounds))),
          length_mapped (λ (m : ℕ × Round). unit_at m.0 m.1) (enumerate_from 0 (filter ends_in_unit rounds)),
          enumerated 0 (filter ends_in_unit rounds),
          fewer ends_in_unit rounds,
        )

pub few_views_have_few_units : FewViewsHaveFewUnits
few_views_have_few_units s few = all_places 0 (plan_of s).units (units_count s) (omega (arith, few_units s, few))

-- ---- grids

small_facet : (facet : Option FacetPlan) → IfSome facet (λ (f : FacetPlan). length f.fields < 2 ^ 64) → IfSome facet (λ (f : FacetPlan). Rises 0 f.units)
    → IfSome facet IsSmallFacet
small_facet None few rise = tt
small_facet (Some f) few rise = record { fields = few; units = rise }

small_grids : (grids : List GridPlan) → All (λ (grid : GridPlan). IfSome grid.facet (λ (f : FacetPlan). length f.fields < 2 ^ 64)) grids
    → All (λ (grid : GridPlan). IfSome grid.facet (λ (f : FacetPlan). Rises 0 f.units)) grids → All IsSmallGrid grids
small_grids [] few rise = All-nil IsSmallGrid
small_grids (grid ∷ grids) few rise =
    All-cons IsSmallGrid grid grids
    (small_facet grid.facet (All-head (λ (g : GridPlan). IfSome g.facet (λ (f : FacetPlan). length f.fields < 2 ^ 64)) grid grids few)
    (All-head (λ (g : GridPlan). IfSome g.facet (λ (f : FacetPlan). Rises 0 f.units)) grid grids rise))
    (small_grids grids (All-tail (λ (g : GridPlan). IfSome g.facet (λ (f : FacetPlan). length f.fields < 2 ^ 64)) grid grids few)
    (All-tail (λ (g : GridPlan). IfSome g.facet (λ (f : FacetPlan). Rises 0 f.units)) grid grids rise))

pub plans_are_small : PlansAreSmall
plans_are_small s few = record {
  scales = few.scales;
  each = few.each;
  grids = small_grids (plan_of s).grids few.fields (facet_units_rise s (few_views_have_few_units s few.views));
  numbers = grid_numbers_rise s few.views;
}
