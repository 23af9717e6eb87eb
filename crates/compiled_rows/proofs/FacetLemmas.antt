-- The units below a facet are those below its view, in the order of all units.
use Rattle.std.proofs.Common.{◌≡◌, refl, sym, ap, ◌∙◌, ℕ, zero, suc, ◌+◌, ◌≤◌, Bool, true, false, if◌then◌else◌, Option, Some, None, List, [], ◌∷◌, ◌++◌}
use Rattle.std.proofs.Common.{All, IfSome, arith, filter, filter_map, fold, map, option_to_list, slice_get}
use Rattle.std.specs.List.{cons_option, enumerate_from}
use Rattle.std.proofs.lemmas.List.Elements.{All-nil, All-cons, All-head, All-tail, All-append}
use Rattle.vl_spec.specs.declared.spec.VlSpec.{VlSpec}
use Rattle.vl_compose.specs.Rounds.{AFacet, AJoined, ALayer, AUnit, KindAt, Round, ViewAt, rounds_of}
use Rattle.vl_compose.specs.Units.{UnitAt, ends_in_unit, unit_at, units_of}
use Rattle.vl_normalize.specs.Normal.{normal_form}
use Rattle.plan_kit.specs.declared.plans.UnitPlan.{UnitPlan}
use Rattle.plan_kit.specs.declared.grids.FacetPlan.{FacetPlan}
use Rattle.plan_kit.specs.declared.grids.GridPlan.{GridPlan}
use Rattle.chart_plan.specs.Grids.{grid_by, grid_in, grids_of, is_below, is_there, number_below, with_grid, with_grids}
use Rattle.chart_plan.specs.Plan.{all_scales, unit_by}
use Rattle.compiled_rows.specs.Lists.{FacetUnitsRise, Rises}
use Rattle.compiled_rows.specs.Names.{IsPlace}
use Rattle.compiled_rows.proofs.StandLemmas.{no_value, number_in}

-- ---- numbers that rise

rises_below : (n m : ℕ) (ns : List ℕ) → n ≤ m → Rises m ns → Rises n ns
rises_below n m [] less rises = tt
rises_below n m (k ∷ ns) less rises = (omega (arith, less, rises.0), rises.1, rises.2)

abbrev CountsUp : ℕ → List UnitAt → Type 0
CountsUp n us = (k : ℕ) (u : UnitAt) → slice_get us k ≡ Some u → u.number ≡ n + k

abbrev AreFew : List UnitAt → Type 0
AreFew us = All (λ (u : UnitAt). IsPlace u.number) us

below_rise : (number n : ℕ) (us : List UnitAt) → CountsUp n us → AreFew us → Rises n (filter_map (number_below number) us)
below_rise number n [] up few = tt
below_rise number n (u ∷ us) up few =
    by (is_below number u) (up zero u refl)
    (below_rise number (n + 1) us (λ k v e. up (suc k) v e ∙ omega arith) (All-tail (λ (v : UnitAt). IsPlace v.number) u us few))
  where
    by : (b : Bool) → u.number ≡ n + 0 → Rises (n + 1) (filter_map (number_below number) us)
        → Rises n (cons_option (if b then Some u.number else None) (filter_map (number_below number) us))
    by true here rest = (
      omega (arith, here),
      All-head (λ (v : UnitAt). IsPlace v.number) u us few,
      rises_below (suc u.number) (n + 1) (filter_map (number_below number) us) (omega (arith, here)) rest,
    )
    by false here rest = rises_below n (n + 1) (filter_map (number_below number) us) (omega arith) rest

-- ---- grids

abbrev Facets : GridPlan → Type 0
Facets grid = IfSome grid.facet (λ (f : FacetPlan). Rises 0 f.units)

of_kind : (units : List UnitAt) → CountsUp 0 units → AreFew units → (v : ViewAt) (kind : KindAt) → IfSome (grid_by units v kind) Facets
of_kind units up few v (AUnit unit) = tt
of_kind units up few v (ALayer encoding) = tt
of_kind units up few v (AFacet f) = below_rise v.number 0 units up few
of_kind units up few v (AJoined j) = tt

listed : (o : Option GridPlan) → IfSome o Facets → All Facets (option_to_list o)
listed None h = All-nil Facets
listed (Some grid) h = All-cons Facets grid [] h (All-nil Facets)

one_grid : (units : List UnitAt) → CountsUp 0 units → AreFew units → (grids : List GridPlan) (v : ViewAt) → All Facets grids
    → All Facets (with_grid units grids v)
one_grid units up few grids v all = by (is_there v.number grids)
  where
    by : (b : Bool) → All Facets (if b then grids else grids ++ option_to_list (grid_in units v))
    by true = all
    by false = All-append Facets grids (option_to_list (grid_in units v)) all (listed (grid_in units v) (of_kind units up few v v.kind))

folded : {A B : Type 0} (f : B → A → B) (Q : B → Type 0) → ((b : B) (a : A) → Q b → Q (f b a)) → (xs : List A) (b : B) → Q b → Q (fold f b xs)
folded f Q each [] b h = h
folded f Q each (x ∷ xs) b h = folded f Q each xs (f b x) (each b x h)

all_grids : (units : List UnitAt) → CountsUp 0 units → AreFew units → All Facets (grids_of units)
all_grids units up few =
    folded (with_grids units) (All Facets)
    (λ grids unit all. folded (with_grid units) (All Facets) (λ some v h. one_grid units up few some v h) unit.round grids all) units [] (All-nil Facets)

-- ---- the law

unmapped : {X Y : Type 0} (P : Y → Type 0) (f : X → Y) (xs : List X) → All P (map f xs) → All (λ x. P (f x)) xs
unmapped P f [] all = All-nil (λ x. P (f x))
unmapped P f (x ∷ xs) all = All-cons (λ y. P (f y)) x xs (All-head P (f x) (map f xs) all) (unmapped P f xs (All-tail P (f x) (map f xs) all))

numbered_on : (n : ℕ) (rounds : List Round) (k : ℕ) (u : UnitAt) → slice_get (map (λ (m : ℕ × Round). unit_at m.0 m.1) (enumerate_from n rounds)) k ≡ Some u
    → u.number ≡ n + k
numbered_on n [] k u e = absurd (no_value u e)
numbered_on n (round ∷ rounds) zero u e = sym (ap (number_in (λ (v : UnitAt). v.number)) e) ∙ omega arith
numbered_on n (round ∷ rounds) (suc k) u e = numbered_on (n + 1) rounds k u e ∙ omega arith

counts : (s : VlSpec) → CountsUp 0 (units_of s)
counts s k u e = numbered_on 0 (filter ends_in_unit (rounds_of s)) k u e

pub facet_units_rise : FacetUnitsRise
facet_units_rise s few =
    let n = normal_form s in
    all_grids (units_of n) (counts n) (unmapped (λ (u : UnitPlan). IsPlace u.number) (unit_by n.params (all_scales n (units_of n))) (units_of n) few)
