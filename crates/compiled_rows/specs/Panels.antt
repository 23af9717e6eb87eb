-- The copies of a compiled facet are the panels of the direct meaning, as soon as the cells of its fields are. For a facet whose panels stand by no keys this
-- is so where each list that it parts beside the rows of units has no cells but theirs. Where they stand by keys, what is left to be shown is that the cells of
-- each field are in their order.
use Rattle.std.specs.Prelude.{◌≡◌, ℕ, true, false, Some, List, ◌++◌, All, map, flat_map}
use Rattle.cell_value.specs.Datum.{Datum}
use Rattle.plain_facets.specs.Facets.{cells_of_fields, choices}
use Rattle.vega_lists.specs.Scopes.{Scope}
use Rattle.vega_copies.specs.Facets.{divided_by, rows_divided, copies_of}
use Rattle.vega_copies.specs.Facets as vega
use Rattle.vega_copies.specs.Outlines.{Object}
use Rattle.plan_kit.specs.declared.grids.FacetPlan.{FacetPlan}
use Rattle.plan_kit.specs.declared.grids.GridPlan.{GridPlan}
use Rattle.plan_kit.specs.declared.plan.Plan.{Plan}
use Rattle.chart_meaning.specs.Parts.{Copy, cells_of_facet, names_of}
use Rattle.vega_assemble.specs.Drags.{outer_names}
use Rattle.vega_assemble.specs.Facets.{facet_over, grids_inside, scale_names, keys_inside, deeper}
use Rattle.vega_assemble.specs.Keys.{has_keys, sort_of}
use Rattle.vega_assemble.specs.Names.{unit_name}
use Rattle.vega_assemble.specs.Views.{facet_of}
use Rattle.compiled_rows.specs.Parts.{is_one_of, scales_held, HaveCellsOf, AreCovered}

-- The cells of the fields of a facet without keys are those of the panels, where the rows of its lists have in each field the cells of the units.
abbrev pub FieldsInOwnOrders : Type 0
FieldsInOwnOrders = (stem : List ℕ) (names : List (List ℕ)) (f : FacetPlan) (copy : Copy) (rows : List Datum) → has_keys f.fields ≡ false
    → ((name : List ℕ) → is_one_of (names_of f) name ≡ true → HaveCellsOf copy f.units name rows)
    → cells_of_fields (divided_by (sort_of stem f.fields) (facet_over names f)) rows ≡ cells_of_facet copy f

-- An object that has the facet and its order has a copy for each choice of these cells, in their order.
abbrev pub CopiesArePanels : Type 0
CopiesArePanels = (stem : List ℕ) (p : Plan) (grid : GridPlan) (f : FacetPlan) (copy : Copy) (outer : Scope) (o : Object)
    → o.facet ≡ Some (facet_of stem p grid f) → o.sort ≡ sort_of stem f.fields
    → cells_of_fields (divided_by (sort_of stem f.fields) (facet_of stem p grid f)) (rows_divided outer (facet_of stem p grid f)) ≡ cells_of_facet copy f
    → copies_of outer o ≡ map (vega.copy_with outer (facet_of stem p grid f)) (choices (cells_of_facet copy f))

-- the names of lists that a facet parts behind its own keys and the rows of units
abbrev pub names_behind : List ℕ → Plan → GridPlan → FacetPlan → List (List ℕ)
names_behind stem p grid f =
    scale_names stem p.grids (scales_held p grid f) ++ flat_map (keys_inside stem) (deeper grid.number (grids_inside p.grids grid f))
    ++ outer_names stem p.selections (scales_held p grid f)

-- So a facet without keys has the panels of the direct meaning, where names stand round it for the rows of units, and its other lists have no cells but theirs.
abbrev pub PanelsInOwnOrders : Type 0
PanelsInOwnOrders = (stem : List ℕ) (p : Plan) (grid : GridPlan) (f : FacetPlan) (copy : Copy) (outer : Scope) (o : Object) → has_keys f.fields ≡ false
    → o.facet ≡ Some (facet_of stem p grid f) → o.sort ≡ sort_of stem f.fields
    → All (λ unit. outer (unit_name stem unit) ≡ copy.rows unit) f.units
    → AreCovered (names_of f) (flat_map copy.rows f.units) (flat_map outer (names_behind stem p grid f))
    → copies_of outer o ≡ map (vega.copy_with outer (facet_of stem p grid f)) (choices (cells_of_facet copy f))
