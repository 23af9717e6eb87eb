-- The cells and ranks of domains, the keys of facets and the lists of drags are made of other lists under names of their own alone. The rows by which the
-- cells of a scale stand are some of those before an aggregate, or have the cells of the facets round it.
use Rattle.std.specs.Prelude.{◌≡◌, ◌≢◌, ℕ, nat_le, Bool, true, Option, Some, List, All, slice_get}
use Rattle.std.specs.List.{list_all}
use Rattle.vega_spec.specs.declared.data.DataSet.{DataSet}
use Rattle.vega_lists.specs.Transforms.{transforms_of}
use Rattle.vl_spec.specs.declared.spec.VlSpec.{VlSpec}
use Rattle.plan_kit.specs.declared.domains.DomainPlan.{DomainPlan}
use Rattle.plan_kit.specs.declared.domains.DomainPlan.TheVariants as plan
use Rattle.plan_kit.specs.declared.grids.FacetField.{FacetField}
use Rattle.plan_kit.specs.declared.grids.FacetPlan.{FacetPlan}
use Rattle.plan_kit.specs.declared.grids.GridPlan.{GridPlan}
use Rattle.plan_kit.specs.declared.orders.CellOrder.{CellOrder}
use Rattle.plan_kit.specs.declared.orders.CellOrder.TheVariants as stands
use Rattle.plan_kit.specs.declared.plan.Plan.{Plan}
use Rattle.plan_kit.specs.declared.scales.ScalePlan.{ScalePlan}
use Rattle.plan_kit.specs.declared.selections.SelectionPlan.{SelectionPlan}
use Rattle.plan_kit.specs.Among.{is_among}
use Rattle.chart_meaning.specs.Parts.{names_of}
use Rattle.vega_assemble.specs.Drags.{outer_lists}
use Rattle.vega_assemble.specs.Keys.{keys_list}
use Rattle.vega_assemble.specs.Lists.{lists_of_scale, names_held}
use Rattle.vega_assemble.specs.Mentioned.{mentioned}
use Rattle.vega_assemble.specs.Names.{cells_name, ranks_name, cell_column, rank_column, key_column, stem_for}
use Rattle.compiled_rows.specs.Follows.{is_outside, leaves_cells, adds_none}
use Rattle.compiled_rows.specs.Parts.{is_one_of}

-- The columns that are made are none of some fields, as they are none that a specification mentions; nor are the names of lists of cells, which are columns
-- too.
pub record ColumnsAreOutside (stem : List ℕ) (names : List (List ℕ)) : Type 0 where
  pub cell : is_outside names (cell_column stem) ≡ true
  pub rank : is_outside names (rank_column stem) ≡ true
  pub keys : (place : ℕ) → is_outside names (key_column stem place) ≡ true
  pub lists : (scale column : ℕ) → is_outside names (cells_name stem scale column) ≡ true

-- It is so of fields that are mentioned, for which the stem is made,
abbrev pub MentionedAreOutside : Type 0
MentionedAreOutside = (mentioned names : List (List ℕ)) → list_all (is_one_of mentioned) names ≡ true → ColumnsAreOutside (stem_for mentioned) names

-- as are the fields of each facet.
abbrev pub FieldsAreMentioned : Type 0
FieldsAreMentioned = (s : VlSpec) (p : Plan) (place : ℕ) (grid : GridPlan) (f : FacetPlan) → slice_get p.grids place ≡ Some grid → grid.facet ≡ Some f
    → list_all (is_one_of (mentioned s p)) (names_of f) ≡ true

-- whether a data set leaves the cells in these fields, and whether it adds none there
abbrev pub set_leaves : List (List ℕ) → DataSet → Bool
set_leaves names set = list_all (leaves_cells names) (transforms_of set)

abbrev pub set_adds_none : List (List ℕ) → DataSet → Bool
set_adds_none names set = list_all (adds_none names) (transforms_of set)

-- Then all lists of a scale leave them that a facet parts, but for the rows by which its cells stand,
abbrev pub ScaleListsLeave : Type 0
ScaleListsLeave = (stem : List ℕ) (names : List (List ℕ)) → ColumnsAreOutside stem names → (grids : List GridPlan) (s : ℕ × ScalePlan)
    → All (λ (set : DataSet). set.name ≢ ranks_name stem s.0 → set_leaves names set ≡ true) (lists_of_scale stem grids s)

-- those of keys,
abbrev pub KeyListsLeave : Type 0
KeyListsLeave = (stem : List ℕ) (names : List (List ℕ)) → ColumnsAreOutside stem names → (facet : ℕ) (fields : List FacetField) (unit : ℕ)
    → set_leaves names (keys_list stem facet fields unit) ≡ true

-- and those of drags.
abbrev pub DragListsLeave : Type 0
DragListsLeave = (stem : List ℕ) (names : List (List ℕ)) (selections : List SelectionPlan) (s : ℕ × ScalePlan)
    → list_all (set_leaves names) (outer_lists stem selections s) ≡ true

-- ---- the rows by which cells stand

-- whether an order by rows tells these apart by some fields, as they are fields of the facets round its unit
abbrev pub tells : List GridPlan → Option ℕ → List (List ℕ) → CellOrder → Bool
tells grids holder names stands.First = true
tells grids holder names stands.Up = true
tells grids holder names stands.Down = true
tells grids holder names (stands.Listed cells) = true
tells grids holder names (stands.ByRows by) = list_all (is_one_of (names_held grids by.unit holder)) names

abbrev pub domain_tells : List GridPlan → Option ℕ → List (List ℕ) → DomainPlan → Bool
domain_tells grids holder names (plan.Cells cells) = true
domain_tells grids holder names (plan.Columns of) = tells grids holder names of.order

-- Then all lists of a scale that a facet parts, these rows among them, add no cell in the fields.
abbrev pub ScaleListsAddNone : Type 0
ScaleListsAddNone = (stem : List ℕ) (names : List (List ℕ)) → ColumnsAreOutside stem names → (grids : List GridPlan) (s : ℕ × ScalePlan)
    → domain_tells grids s.1.holder names s.1.domain ≡ true → list_all (set_adds_none names) (lists_of_scale stem grids s) ≡ true

-- An order by rows tells them apart by the fields of each facet round its unit, as far in as the one in whose panels the scale stands once.
abbrev pub FieldsAreTold : Type 0
FieldsAreTold = (grids : List GridPlan) (place : ℕ) (grid : GridPlan) (f : FacetPlan) (holder unit : ℕ)
    → slice_get grids place ≡ Some grid → grid.facet ≡ Some f → nat_le grid.number holder ≡ true → is_among f.units unit ≡ true
    → list_all (is_one_of (names_held grids unit (Some holder))) (names_of f) ≡ true
