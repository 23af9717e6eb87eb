-- Facets. The rows of all units below a facet are parted, each list under its own name, and with them all other lists that are read in its panels: the keys
-- of facets inside it, and what the scales read that stand once in a panel of it, or of a facet inside it.
use Rattle.std.specs.Prelude.{◌≡◌, refl, ℕ, ◌==◌, ◌&&◌, nat_le, Bool, true, false, not, Option, Some, None, List, [], ◌∷◌, ◌++◌, map, flat_map}
use Rattle.std.specs.Prelude.{filter, codes, if◌then◌else◌}
use Rattle.std.specs.List.{enumerate_from, list_any}
use Rattle.std.specs.Option.{option_map_or}
use Rattle.vega_spec.specs.declared.data.DataSet.{DataSet}
use Rattle.vega_spec.specs.declared.marks.Cross.{Cross}
use Rattle.vega_spec.specs.declared.marks.Facet.{Facet}
use Rattle.vega_spec.specs.declared.marks.Header.{Header}
use Rattle.vega_spec.specs.declared.marks.Header.TheVariants.{Row, Column}
use Rattle.vega_spec.specs.declared.orders.Texts.TheVariants as texts
use Rattle.plan_kit.specs.declared.grids.FacetField.{FacetField}
use Rattle.plan_kit.specs.declared.grids.FacetPlan.{FacetPlan}
use Rattle.plan_kit.specs.declared.grids.GridPlan.{GridPlan}
use Rattle.plan_kit.specs.declared.orders.CellOrder.TheVariants as stands
use Rattle.plan_kit.specs.declared.scales.ScalePlan.{ScalePlan}
use Rattle.plan_kit.specs.Among.{is_among}
use Rattle.vega_assemble.specs.Keys.{has_keys}
use Rattle.vega_assemble.specs.Lists.{lists_of_scale, field_names}
use Rattle.vega_assemble.specs.Names.{unit_name, keys_name}

-- ---- names of parts

-- the names of a facet's lists of keys
abbrev pub names_of_keys : List ℕ → ℕ → FacetPlan → List (List ℕ)
names_of_keys stem number f = if has_keys f.fields then map (keys_name stem number) f.units else []

-- the first unit of a facet, and whether a facet is this one or one inside it: its units are among those of this one, and its number is no less
abbrev pub first_of : List ℕ → Option ℕ
first_of [] = None
first_of (unit ∷ units) = Some unit

abbrev pub is_inside : GridPlan → FacetPlan → GridPlan → FacetPlan → Bool
is_inside outer parts inner f =
    nat_le outer.number inner.number && option_map_or (is_among parts.units) (first_of f.units) false

abbrev pub is_grid_inside : GridPlan → FacetPlan → GridPlan → Bool
is_grid_inside outer parts inner = option_map_or (is_inside outer parts inner) inner.facet false

-- the facets at or inside a facet
abbrev pub grids_inside : List GridPlan → GridPlan → FacetPlan → List GridPlan
grids_inside grids outer parts = filter (is_grid_inside outer parts) grids

abbrev pub is_number : ℕ → GridPlan → Bool
is_number number grid = grid.number == number

abbrev pub holds : List GridPlan → ℕ → Bool
holds grids number = list_any (is_number number) grids

-- whether a scale stands once in a panel of one of these facets
abbrev pub is_held : List GridPlan → ℕ × ScalePlan → Bool
is_held grids s = option_map_or (holds grids) s.1.holder false

abbrev pub scales_inside : List GridPlan → List ScalePlan → List (ℕ × ScalePlan)
scales_inside inside scales = filter (is_held inside) (enumerate_from 0 scales)

-- the names of lists that only the domains of these scales read
abbrev pub names_of_sets : List DataSet → List (List ℕ)
names_of_sets sets = map (λ (set : DataSet). set.name) sets

abbrev pub scale_names : List ℕ → List GridPlan → List (ℕ × ScalePlan) → List (List ℕ)
scale_names stem grids held = names_of_sets (flat_map (lists_of_scale stem grids) held)

abbrev pub keys_inside : List ℕ → GridPlan → List (List ℕ)
keys_inside stem grid = option_map_or (names_of_keys stem grid.number) grid.facet []

-- the facets inside a facet alone
abbrev pub is_deeper : ℕ → GridPlan → Bool
is_deeper number grid = not (grid.number == number)

abbrev pub deeper : ℕ → List GridPlan → List GridPlan
deeper number inside = filter (is_deeper number) inside

-- The lists that a facet parts, but for those of copies of scales: its own keys, then the rows of its units, and what else is read in its panels. The order of
-- its cells reads their entries in the first row that has the cell, and its keys alone have these: so they come first.
abbrev pub parts_by : List ℕ → List GridPlan → List GridPlan → List (ℕ × ScalePlan) → ℕ → FacetPlan → List (List ℕ)
parts_by stem grids inside held number f =
    names_of_keys stem number f ++ map (unit_name stem) f.units ++ scale_names stem grids held ++ flat_map (keys_inside stem) (deeper number inside)

-- ---- the facet of a group

-- the header of a field
abbrev pub header_of : FacetField → Option Header
header_of field = if field.labels then Some (if field.is_beside then Row else Column) else None

-- one field makes a panel for each of its cells; of no field or two each choice of cells is one
abbrev pub crossing : List FacetField → Option Cross
crossing [] = Some (record { cross = Some true })
crossing (field ∷ []) = None
crossing (first ∷ second ∷ others) = Some (record { cross = Some true })

-- a facet that parts lists of these names, each under its own
abbrev pub facet_over : List (List ℕ) → FacetPlan → Facet
facet_over names f = record {
  name = texts.Several names;
  data_ = texts.Several names;
  groupby = field_names f;
  aggregate = crossing f.fields;
  headers = Some (map header_of f.fields);
}

-- The rules at work.

abbrev a_field : FacetField
a_field = record { name = codes "c"; order = stands.Up; is_beside = true; labels = false }

one_field_alone : (crossing [] ≡ Some (record { cross = Some true })) × (crossing (a_field ∷ []) ≡ None) × (header_of a_field ≡ None)
one_field_alone = (refl, refl, refl)
