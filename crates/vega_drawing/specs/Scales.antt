-- The scales that have names at an object, and its axes over them.
use Rattle.std.specs.Prelude.{◌≡◌, refl, ℕ, ◌+◌, ◌%◌, ◌==◌, not, nat_lt, Bool, true, false, ℤ, Option, Some, None, codes}
use Rattle.std.specs.Prelude.{List, [], ◌∷◌, ◌++◌, map, zip, filter, find, filter_map}
use Rattle.std.specs.Option.{option_map, option_map_or}
use Rattle.std.specs.List.{list_all, list_any}
use Rattle.std.specs.Str.{bytes_eq}
use Rattle.cell_value.specs.declared.cell.Cell.{Cell}
use Rattle.expr_eval.specs.Values.{Values}
use Rattle.scale_kit.specs.declared.scale.Scale.{Scale}
use Rattle.scale_kit.specs.declared.scale.ScaleIn.{ScaleIn}
use Rattle.scale_kit.specs.declared.scale.ScaleSet.{ScaleSet}
use Rattle.vega_spec.specs.declared.guides.Axis.{Axis}
use Rattle.vega_spec.specs.declared.guides.Edge.{Edge}
use Rattle.vega_spec.specs.declared.guides.Edge.TheVariants as edge
use Rattle.vega_spec.specs.declared.scales.Scale.{Scale as VegaScale}
use Rattle.vega_scales.specs.declared.scaled.Scaled.{Scaled}
use Rattle.vega_scales.specs.declared.scaled.Scaled.TheVariants.{Cells}
use Rattle.vega_scales.specs.Scales.{scale_over, domain_size}
use Rattle.vega_drawing.specs.declared.spots.GridSpot.{GridSpot}
use Rattle.cell_value.specs.declared.cell.Cell.TheVariants.{Null}
use Rattle.expr_eval.specs.Plain.{no_values}
use Rattle.vega_spec.specs.declared.domains.Domain.TheVariants as domain
use Rattle.vega_spec.specs.declared.guides.Side.TheVariants.{Bottom}
use Rattle.vega_spec.specs.declared.scales.Range.{Range}
use Rattle.vega_spec.specs.declared.scales.Range.TheVariants as range

-- the spot of the cell of this index in a grid of so many cells in so many columns
abbrev pub spot_of : ℕ → ℕ → ℕ → GridSpot
spot_of columns cells index = record {
  is_last_row = not (nat_lt (index + columns) cells);
  is_first_column = (index % columns) == 0;
}

-- a range that is the size of a plot
abbrev pub is_sized : Range → Bool
is_sized (range.Cells cells) = false
is_sized range.Width = true
is_sized range.Height = true
is_sized range.Category = false
is_sized range.Ramp = false
is_sized range.Symbol = false

-- A scale that has a name at an object.
pub record ScaleHere : Type 0 where
  pub scale : VegaScale
  pub domain : Scaled
  -- whether it belongs to the whole chart, and not to each plot
  pub is_of_chart : Bool
  -- the spots, in their grids, of the copies of faceted groups between the object that has it and this one
  pub passed : List GridSpot

abbrev pub name_of : ScaleHere → List ℕ
name_of s = s.scale.name

-- the scale in a plot of this width and height
abbrev pub laid_over : ℤ → ℤ → ScaleHere → Scale
laid_over width height s = scale_over s.scale width height s.domain

-- scales by their names in a plot of this width and height
abbrev pub scale_in : ℤ → ℤ → ScaleHere → ScaleIn
scale_in width height s = record { panel = None; name = name_of s; scale = laid_over width height s }

abbrev pub set_of : ℤ → ℤ → List ScaleHere → ScaleSet
set_of width height scales = record { scales = map (scale_in width height) scales }

-- a scale of the object itself, with what it scales
abbrev pub own_scale : (VegaScale → Bool) → VegaScale × Scaled → ScaleHere
own_scale is_of_chart s = record { scale = s.0; domain = s.1; is_of_chart = is_of_chart s.0; passed = [] }

-- the scales of the object itself
abbrev pub own_scales : (VegaScale → Bool) → List VegaScale → List Scaled → List ScaleHere
own_scales is_of_chart scales domains = map (own_scale is_of_chart) (zip scales domains)

-- whether one of some scales has the name
abbrev pub has_scale : List ScaleHere → List ℕ → Bool
has_scale scales name = list_any (λ s. bytes_eq (name_of s) name) scales

-- the scales that have names at an object: its own, and the outer ones of other names
abbrev pub and_outer : List ScaleHere → List ScaleHere → List ScaleHere
and_outer outer own = own ++ filter (λ s. not (has_scale own (name_of s))) outer

abbrev pub scale_named : List ScaleHere → List ℕ → Option ScaleHere
scale_named scales name = find (λ s. bytes_eq (name_of s) name) scales

-- how long the domain of the scale of a name is; 0 where there is none
abbrev pub domain_length_here : List ScaleHere → List ℕ → ℕ
domain_length_here scales name = option_map_or (λ (s : ScaleHere). domain_size s.domain) (scale_named scales name) 0

-- the values where scales have these domains
abbrev pub with_domains : List ScaleHere → Values → Values
with_domains scales values = record values {
  domain_length = domain_length_here scales;
}

-- a scale behind one more copy of a faceted group
abbrev pub past : GridSpot → ScaleHere → ScaleHere
past spot s = record s { passed = spot ∷ s.passed }

-- An axis of an object, with the scale that its name stands for there.
pub record AxisHere : Type 0 where
  pub axis : Axis
  pub scale : ScaleHere

abbrev pub axis_here : List ScaleHere → Axis → Option AxisHere
axis_here scales a = option_map (λ s. record { axis = a; scale = s }) (scale_named scales a.scale)

abbrev pub axes_here : List ScaleHere → List Axis → List AxisHere
axes_here scales axes = filter_map (axis_here scales) axes

abbrev pub axis_past : GridSpot → AxisHere → AxisHere
axis_past spot a = record a { scale = past spot a.scale }

-- whether a spot is at an edge
abbrev pub is_at : Edge → GridSpot → Bool
is_at edge.LastRow spot = spot.is_last_row
is_at edge.FirstColumn spot = spot.is_first_column

-- whether an axis stands in a plot: without an edge always; else where each copy between the object that has its scale and the plot is at
-- that edge of its grid
abbrev pub stands : AxisHere → Bool
stands a = option_map_or (λ e. list_all (is_at e) a.scale.passed) a.axis.edge true

-- The rules at work.

-- five cells in three columns: below the third there is a gap
spots_in_a_grid : (spot_of 3 5 0 ≡ record { is_last_row = false; is_first_column = true })
    × (spot_of 3 5 2 ≡ record { is_last_row = true; is_first_column = false })
    × (spot_of 3 5 3 ≡ record { is_last_row = true; is_first_column = true })
    × (spot_of 3 5 4 ≡ record { is_last_row = true; is_first_column = false })
spots_in_a_grid = (refl, refl, refl, refl)

-- a scale of a name that isn't read
abbrev pub a_scale : List ℕ → Range → VegaScale
a_scale name r = record {
  name = name;
  type_ = 3;
  domain = domain.Cells [];
  domain_raw = None;
  range = r;
  zero = None;
  nice = None;
  reverse = None;
  padding = None;
  padding_inner = None;
  padding_outer = None;
}

-- the same at an object, with a domain of so many nulls
abbrev scale_of_nulls : List ℕ → List Cell → ScaleHere
scale_of_nulls name cells = record { scale = a_scale name range.Width; domain = Cells cells; is_of_chart = false; passed = [] }

-- an own scale hides the outer one of its name
abbrev both : List ScaleHere
both =
    and_outer (scale_of_nulls (codes "x") [] ∷ scale_of_nulls (codes "y") [] ∷ []) (scale_of_nulls (codes "x") (Null ∷ []) ∷ [])

own_scales_first : map name_of both ≡ codes "x" ∷ codes "y" ∷ []
own_scales_first = refl

the_own_domain : (with_domains both no_values).domain_length (codes "x") ≡ 1
the_own_domain = refl

-- an axis of a title alone
abbrev pub an_axis : List ℕ → Option Edge → Axis
an_axis scale e = record {
  scale = scale;
  orient = Bottom;
  title = Some (codes "b");
  labels = Some false;
  ticks = Some false;
  domain = Some false;
  grid = None;
  label_angle = None;
  tick_count = None;
  values = None;
  format = None;
  edge = e;
}

-- an axis stands where all copies that it passed are at its edge
abbrev axis_at : Option Edge → List GridSpot → AxisHere
axis_at e spots = record { axis = an_axis (codes "x") e; scale = record (scale_of_nulls (codes "x") []) { passed = spots } }

axes_at_edges : (stands (axis_at None (spot_of 3 5 1 ∷ [])) ≡ true) × (stands (axis_at (Some edge.LastRow) []) ≡ true)
    × (stands (axis_at (Some edge.LastRow) (spot_of 3 5 2 ∷ spot_of 1 1 0 ∷ [])) ≡ true)
    × (stands (axis_at (Some edge.FirstColumn) (spot_of 3 5 3 ∷ spot_of 2 2 1 ∷ [])) ≡ false)
axes_at_edges = (refl, refl, refl, refl)
