-- Views of a plan, by what stands in them.
use Rattle.std.proofs.Common.{◌≡◌, ℕ, ◌+◌, ◌<◌, Option, Some, None, List, [], ◌∷◌, ◌++◌, map, drop, get_or, length, refl, sym, ap, subst, ◌∙◌, arith}
use Rattle.std.proofs.lemmas.List.{append_assoc, drop_more}
use Rattle.std.specs.Option.{option_map_or}
use Rattle.std.specs.Prelude.{slice_get}
use Rattle.vega_spec.specs.declared.spec.VgMark.{VgMark}
use Rattle.plan_kit.specs.declared.grids.FacetPlan.{FacetPlan}
use Rattle.plan_kit.specs.declared.grids.GridPlan.{GridPlan}
use Rattle.plan_kit.specs.declared.plots.PlotPlan.{PlotPlan}
use Rattle.plan_kit.specs.declared.plan.Plan.{Plan}
use Rattle.plan_kit.specs.declared.views.ViewPlan.{ViewPlan, ViewPlan-F, out-ViewPlan, out-roll-ViewPlan, map-ViewPlan, fold_out-ViewPlan}
use Rattle.plan_kit.specs.declared.views.ViewPlan.TheVariants as view
use Rattle.plan_kit.specs.declared.views.ViewPlan.TheVariants.{rolls-Plot, rolls-Grid}
use Rattle.plan_kit.specs.declared.views.ViewPlan.TheOpen as level
use Rattle.vega_assemble.specs.declared.views.Held.{Held}
use Rattle.vega_assemble.specs.declared.views.Opened.{Opened}
use Rattle.vega_assemble.specs.Keys.{sort_of}
use Rattle.vega_assemble.specs.Made.{MadeView, NoMarks, group_of, group_rolled, rolled}
use Rattle.vega_assemble.specs.Views.{View, facet_of, faceted, held_by, nothing_held, plot_made, grid_made, no_view, plot_at, grid_at, joined}
use Rattle.vega_assemble.specs.Views.{units_made, unit_at, view_here, view_made}
use Rattle.vega_assemble.specs.inner.Groups.{mark_with}
use Rattle.vega_assemble.specs.inner.Holders.{opened, group_for}
use Rattle.vega_assemble.proofs.MarkLemmas.{found_behind}

-- a view by its opened level
abbrev pub made_at : List ℕ → Plan → ViewPlan-F ViewPlan → Held → MadeView
made_at stem p (level.Plot place) held = plot_at stem p place held
made_at stem p (level.Grid place views) held = grid_at stem p place (map (view_made stem p) views) held

by_level : (stem : List ℕ) (p : Plan) (o : ViewPlan-F ViewPlan) (held : Held)
    → view_here stem p (map-ViewPlan ViewPlan View (view_made stem p) o) held ≡ made_at stem p o held
by_level stem p (level.Plot place) held = refl
by_level stem p (level.Grid place views) held = refl

view_opens : (stem : List ℕ) (p : Plan) (v : ViewPlan) (held : Held) → view_made stem p v held ≡ made_at stem p (out-ViewPlan v) held
view_opens stem p v held = ap (λ (w : View). w held) (fold_out-ViewPlan View (view_here stem p) v) ∙ by_level stem p (out-ViewPlan v) held

pub plot_is : (stem : List ℕ) (p : Plan) (v : ViewPlan) (place : ℕ) (held : Held) → v ≡ view.Plot place
    → view_made stem p v held ≡ plot_at stem p place held
plot_is stem p v place held is =
    view_opens stem p v held
    ∙ ap (λ o. made_at stem p o held) (ap out-ViewPlan (is ∙ sym (rolls-Plot place)) ∙ out-roll-ViewPlan (level.Plot place))

pub grid_is : (stem : List ℕ) (p : Plan) (v : ViewPlan) (place : ℕ) (views shown : List ViewPlan) (held : Held) → v ≡ view.Grid place views → shown ≡ views
    → view_made stem p v held ≡ grid_at stem p place (map (view_made stem p) shown) held
grid_is stem p v place views shown held is same =
    view_opens stem p v held
    ∙ ap (λ o. made_at stem p o held) (ap out-ViewPlan (is ∙ sym (rolls-Grid place views)) ∙ out-roll-ViewPlan (level.Grid place views))
    ∙ ap (λ vs. grid_at stem p place (map (view_made stem p) vs) held) (sym same)

-- ---- marks of units

-- one unit more
pub one_unit : (stem : List ℕ) (p : Plan) (units : List ℕ) (n d : ℕ) (out next whole : List VgMark) → n < length units
    → next ≡ out ++ rolled (unit_at stem p (get_or units n d) NoMarks) → out ++ rolled (units_made stem p (drop n units)) ≡ whole
    → next ++ rolled (units_made stem p (drop (n + 1) units)) ≡ whole
one_unit stem p units n d out next whole within grown so_far =
    let item : ℕ = get_or units n d in
    let rest : List VgMark = rolled (units_made stem p (drop (n + 1) units)) in
    ap (λ ms. ms ++ rest) grown
    ∙ append_assoc out (rolled (unit_at stem p item NoMarks)) rest
    ∙ ap (λ ms. out ++ ms) (sym (found_behind stem p.scales (slice_get p.units item) (units_made stem p (drop (n + 1) units))))
    ∙ ap (λ numbers. out ++ rolled (units_made stem p numbers)) (sym (drop_more units n d within))
    ∙ so_far

-- ---- joined views

-- an object that parts no rows, and whose copies stand in no order
abbrev IsPlain : MadeView → Type 0
IsPlain v = (v.object.facet ≡ None) × (v.object.sort ≡ None)

plot_plain : (stem : List ℕ) (p : Plan) (found : Option PlotPlan) (held : Held)
    → IsPlain (option_map_or (λ plot. plot_made stem p plot held) found no_view)
plot_plain stem p None held = (refl, refl)
plot_plain stem p (Some plot) held = (refl, refl)

grid_plain : (stem : List ℕ) (p : Plan) (views : List View) (found : Option GridPlan) (held : Held)
    → IsPlain (option_map_or (λ grid. grid_made stem p views grid held) found no_view)
grid_plain stem p views None held = (refl, refl)
grid_plain stem p views (Some grid) held = (refl, refl)

level_plain : (stem : List ℕ) (p : Plan) (o : ViewPlan-F ViewPlan) (held : Held) → IsPlain (made_at stem p o held)
level_plain stem p (level.Plot place) held = plot_plain stem p (slice_get p.plots place) held
level_plain stem p (level.Grid place views) held = grid_plain stem p (map (view_made stem p) views) (slice_get p.grids place) held

view_plain : (stem : List ℕ) (p : Plan) (v : ViewPlan) (held : Held) → IsPlain (view_made stem p v held)
view_plain stem p v held = subst IsPlain (sym (view_opens stem p v held)) (level_plain stem p (out-ViewPlan v) held)

-- its group
group_plain : (v : MadeView) → IsPlain v → group_for (opened v) None None ≡ group_rolled v.object (rolled v.marks)
group_plain v plain = λ i. mark_with (group_of v.object (rolled v.marks)) v.object.extent (sym plain.0 i) (sym plain.1 i)

-- one view more
pub one_view : (stem : List ℕ) (p : Plan) (views : List ViewPlan) (n : ℕ) (item : ViewPlan) (made : Opened) (group : VgMark) (out next whole : List VgMark) →
    n < length views → item ≡ get_or views n item → made ≡ opened (view_made stem p item nothing_held) → group ≡ group_for made None None →
    next ≡ out ++ group ∷ [] →
    out ++ rolled (joined (map (view_made stem p) (drop n views))) ≡ whole → next ++ rolled (joined (map (view_made stem p) (drop (n + 1) views))) ≡ whole
one_view stem p views n item made group out next whole within is view_is group_is grown so_far =
    let rest : List VgMark = rolled (joined (map (view_made stem p) (drop (n + 1) views))) in
    ap (λ ms. ms ++ rest) grown
    ∙ append_assoc out (group ∷ []) rest
    ∙ ap (λ m. out ++ m ∷ rest) (group_is ∙ ap (λ o. group_for o None None) view_is ∙ group_plain _ (view_plain stem p item nothing_held))
    ∙ ap (λ v. out ++ rolled (joined (map (view_made stem p) (v ∷ drop (n + 1) views)))) is
    ∙ ap (λ vs. out ++ rolled (joined (map (view_made stem p) vs))) (sym (drop_more views n item within))
    ∙ so_far

-- ---- the view of a facet

pub facet_is : (stem : List ℕ) (p : Plan) (grid : GridPlan) (f : FacetPlan) (views : List ViewPlan) (item : ViewPlan) (made : Opened) →
    0 < length views → item ≡ get_or views 0 item → made ≡ opened (view_made stem p item (held_by stem p.scales (Some grid.number))) →
    group_for made (sort_of stem f.fields) (Some (facet_of stem p grid f)) ∷ [] ≡ rolled (faceted stem p grid f (map (view_made stem p) views))
facet_is stem p grid f [] item made within is view_is = let none : ⊥ = omega (arith, within) in absurd none
facet_is stem p grid f (v ∷ vs) item made within is view_is =
    ap (λ o. group_for o (sort_of stem f.fields) (Some (facet_of stem p grid f)) ∷ [])
    (view_is ∙ ap (λ v. opened (view_made stem p v (held_by stem p.scales (Some grid.number)))) is)
