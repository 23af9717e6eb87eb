-- Facets in facets. The lists that an inner facet parts have in a panel of the outer one no cells but those of the units there, as they have none round it.
use Rattle.std.specs.Prelude.{◌≡◌, ℕ, true, Some, List, ◌++◌, All, flat_map, slice_get}
use Rattle.cell_value.specs.declared.cell.Cell.{Cell}
use Rattle.vega_lists.specs.Scopes.{Scope}
use Rattle.plan_kit.specs.declared.grids.FacetPlan.{FacetPlan}
use Rattle.plan_kit.specs.declared.grids.GridPlan.{GridPlan}
use Rattle.plan_kit.specs.declared.plan.Plan.{Plan}
use Rattle.plan_kit.specs.Among.{is_among}
use Rattle.chart_meaning.specs.Parts.{Copy, GridSpot, copy_with, names_of}
use Rattle.vega_assemble.specs.Facets.{is_inside, is_deeper}
use Rattle.vega_assemble.specs.Views.{facet_of}
use Rattle.compiled_rows.specs.Panels.{names_behind}
use Rattle.compiled_rows.specs.Parts.{scope_in, AreCovered}

-- It wants the fields of both facets, and of those further in, together.
abbrev pub PanelsStayCovered : Type 0
PanelsStayCovered = (stem : List ℕ) (p : Plan) (grid inner : GridPlan) (f g : FacetPlan) (place : ℕ) (copy : Copy) (spot : GridSpot) (key : List Cell)
    (outer : Scope) (names : List (List ℕ))
    → slice_get p.grids place ≡ Some inner → inner.facet ≡ Some g → is_inside grid f inner g ≡ true → is_deeper grid.number inner ≡ true
    → All (λ unit. is_among f.units unit ≡ true) g.units
    → AreCovered (names_of f ++ names) (flat_map copy.rows g.units) (flat_map outer (names_behind stem p inner g))
    → AreCovered names (flat_map (copy_with f copy spot key).rows g.units)
    (flat_map (scope_in (facet_of stem p grid f) key outer) (names_behind stem p inner g))
