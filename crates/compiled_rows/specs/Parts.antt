-- The lists in the panels of a compiled facet are the parts that the panels have in the direct meaning. A facet parts lists each under its own name, so in a
-- copy such a name stands for the rows of its list that have the cells of the copy, and any other name for what it stood for round it. A facet inside it
-- parts only lists that the outer one has parted, and what names stand for in a copy doesn't hang on how deep it stands. The copies have as their cells
-- every choice of a cell of each field, which are those of the units below as long as no other list that is parted has more of them.
use Rattle.std.specs.Prelude.{◌≡◌, ℕ, Bool, true, Option, Some, None, List, ◌++◌, All, flat_map, slice_get, if◌then◌else◌}
use Rattle.std.specs.List.{list_any}
use Rattle.std.specs.Str.{bytes_eq}
use Rattle.cell_value.specs.declared.cell.Cell.{Cell}
use Rattle.cell_value.specs.Datum.{Datum}
use Rattle.plain_facets.specs.Facets.{key_of, is_key, part_of, cells_in, cells_of_field, cells_of_fields, cells_of_copies, choices}
use Rattle.domain_kit.specs.Cells.{in_first_order}
use Rattle.domain_kit.specs.Orders.{in_direction}
use Rattle.vega_spec.specs.declared.data.DataSet.{DataSet}
use Rattle.vega_spec.specs.declared.marks.Facet.{Facet}
use Rattle.vega_spec.specs.declared.orders.Sort.{Sort}
use Rattle.vega_lists.specs.Scopes.{Scope}
use Rattle.vega_copies.specs.Facets.{with_parts, divided_by}
use Rattle.vega_copies.specs.Facets as vega
use Rattle.plan_kit.specs.declared.grids.FacetPlan.{FacetPlan}
use Rattle.plan_kit.specs.declared.grids.GridPlan.{GridPlan}
use Rattle.plan_kit.specs.declared.plan.Plan.{Plan}
use Rattle.plan_kit.specs.declared.scales.ScalePlan.{ScalePlan}
use Rattle.plan_kit.specs.Among.{is_among}
use Rattle.chart_meaning.specs.Parts.{Copy, GridSpot, copy_with, names_of, cells_below, occurs_in}
use Rattle.vega_assemble.specs.Facets.{facet_over, grids_inside, is_inside, is_deeper, scales_inside}
use Rattle.vega_assemble.specs.Keys.{by_name}
use Rattle.vega_assemble.specs.Lists.{lists_of_scale}
use Rattle.vega_assemble.specs.Names.{unit_name}
use Rattle.vega_assemble.specs.Views.{facet_of, parts_with}

-- ---- lists

-- whether a name is one of some
abbrev pub is_one_of : List (List ℕ) → List ℕ → Bool
is_one_of names name = list_any (λ other. bytes_eq other name) names

-- what names stand for in the copy with these cells, where they stand for such lists round it
abbrev pub scope_in : Facet → List Cell → Scope → Scope
scope_in facet key outer = with_parts (vega.copy_with outer facet key).parts outer

-- Of a facet over some lists, each under its own name, the name of such a list stands in a copy for the rows with the cells of the copy, and any other for
-- what it stood for.
abbrev pub ListsAreParted : Type 0
ListsAreParted = (names : List (List ℕ)) (f : FacetPlan) (key : List Cell) (outer : Scope) (name : List ℕ)
    → scope_in (facet_over names f) key outer name ≡ (if is_one_of names name then part_of (names_of f) key (outer name) else outer name)

-- So the rows of a unit below a facet are in a copy those of the panel, where those round the copy are those round the panel;
abbrev pub UnitsAreParted : Type 0
UnitsAreParted = (stem : List ℕ) (p : Plan) (grid : GridPlan) (f : FacetPlan) (copy : Copy) (spot : GridSpot) (key : List Cell) (outer : Scope) (unit : ℕ)
    → is_among f.units unit ≡ true → outer (unit_name stem unit) ≡ copy.rows unit
    → scope_in (facet_of stem p grid f) key outer (unit_name stem unit) ≡ (copy_with f copy spot key).rows unit

-- the scales that stand once in a panel of a facet or of one inside it
abbrev pub scales_held : Plan → GridPlan → FacetPlan → List (ℕ × ScalePlan)
scales_held p grid f = scales_inside (grids_inside p.grids grid f) p.scales

-- and so are the lists to which the domain of such a scale refers.
abbrev pub ScaleListsAreParted : Type 0
ScaleListsAreParted = (stem : List ℕ) (p : Plan) (grid : GridPlan) (f : FacetPlan) (key : List Cell) (outer : Scope) (k j : ℕ) (s : ℕ × ScalePlan)
    (set : DataSet) → slice_get (scales_held p grid f) k ≡ Some s → slice_get (lists_of_scale stem p.grids s) j ≡ Some set
    → scope_in (facet_of stem p grid f) key outer set.name ≡ part_of (names_of f) key (outer set.name)

-- the names of all lists that a facet parts
abbrev pub names_parted : List ℕ → Plan → GridPlan → FacetPlan → List (List ℕ)
names_parted stem p grid f = parts_with stem p (grids_inside p.grids grid f) grid f

-- Whatever a facet inside another one parts, the outer one has parted.
abbrev pub InnerListsAreParted : Type 0
InnerListsAreParted = (stem : List ℕ) (p : Plan) (outer inner : GridPlan) (f g : FacetPlan) (place : ℕ)
    → slice_get p.grids place ≡ Some inner → inner.facet ≡ Some g → is_inside outer f inner g ≡ true → is_deeper outer.number inner ≡ true
    → All (λ unit. is_among f.units unit ≡ true) g.units
    → (name : List ℕ) → is_one_of (names_parted stem p inner g) name ≡ true → is_one_of (names_parted stem p outer f) name ≡ true

-- ---- cells of copies

-- The copies of a facet have every choice of a cell of each of its fields, in the order of these, also by one field alone.
abbrev pub CopiesAreChoices : Type 0
CopiesAreChoices = (names : List (List ℕ)) (f : FacetPlan) (sort : Option Sort) (rows : List Datum)
    → cells_of_copies (divided_by sort (facet_over names f)) rows ≡ choices (cells_of_fields (divided_by sort (facet_over names f)) rows)

-- Rows begin in a field with the cells of the units below a facet, and have no others behind them.
pub record HaveCellsOf (copy : Copy) (units : List ℕ) (name : List ℕ) (rows : List Datum) : Type 0 where
  pub behind : List Cell
  pub begins : cells_in name rows ≡ cells_below copy units name ++ behind
  pub no_others : All (λ cell. occurs_in (cells_below copy units name) cell ≡ true) behind

-- Then the cells of the field are, as they first appear, those of the panels,
abbrev pub FirstCellsAreThese : Type 0
FirstCellsAreThese = (copy : Copy) (units : List ℕ) (name : List ℕ) (rows : List Datum) → HaveCellsOf copy units name rows
    → cells_of_field rows None name ≡ in_first_order (cells_below copy units name)

-- and so they are in either direction.
abbrev pub DirectedCellsAreThese : Type 0
DirectedCellsAreThese = (copy : Copy) (units : List ℕ) (name : List ℕ) (descending : Bool) (rows : List Datum) → HaveCellsOf copy units name rows
    → cells_of_field rows (Some (by_name name descending)) name ≡ in_direction descending (cells_below copy units name)

-- ---- other lists

-- each row has the cells of one of some other rows in these fields
abbrev pub AreCovered : List (List ℕ) → List Datum → List Datum → Type 0
AreCovered names by rows = All (λ row. list_any (λ other. is_key (key_of names other) (key_of names row)) by ≡ true) rows

-- A list that has no cells but those of the units below facets, all their fields together, has none in the panels of the outermost of them.
abbrev pub PartsAreCovered : Type 0
PartsAreCovered = (outer inner : List (List ℕ)) (key : List Cell) (by rows : List Datum) → AreCovered (outer ++ inner) by rows
    → AreCovered inner (part_of outer key by) (part_of outer key rows)

-- where lists are covered by the rows of units, these followed by them have the cells of the units
abbrev pub CoveredHaveCells : Type 0
CoveredHaveCells = (copy : Copy) (units : List ℕ) (names : List (List ℕ)) (name : List ℕ) (others : List Datum) → is_one_of names name ≡ true
    → AreCovered names (flat_map copy.rows units) others → HaveCellsOf copy units name (flat_map copy.rows units ++ others)
