-- Views as objects. A plot has its size, its axes and its title, the copies of scales that drags in it invert, and the marks of its units. A grid has its
-- layout and its title, and a group for each of its views; a facet is one group alone, that of the view in it, which has a copy for each panel. In a panel
-- of a facet stand the scales that belong to that facet, with their legends.
use Rattle.std.specs.Prelude.{ℕ, ◌==◌, ℤ, Bool, true, false, Option, Some, None, List, [], ◌∷◌, ◌++◌, map, filter, slice_get}
use Rattle.std.specs.List.{enumerate_from, filter_map}
use Rattle.std.specs.Option.{option_map_or}
use Rattle.vega_spec.specs.declared.guides.Layout.{Layout}
use Rattle.vega_spec.specs.declared.marks.Facet.{Facet}
use Rattle.vega_spec.specs.declared.orders.Sort.{Sort}
use Rattle.plan_kit.specs.declared.grids.FacetPlan.{FacetPlan}
use Rattle.plan_kit.specs.declared.grids.GridColumns.{GridColumns}
use Rattle.plan_kit.specs.declared.grids.GridColumns.TheVariants as columns
use Rattle.plan_kit.specs.declared.grids.GridPlan.{GridPlan}
use Rattle.plan_kit.specs.declared.plan.Plan.{Plan}
use Rattle.plan_kit.specs.declared.plots.PlotPlan.{PlotPlan}
use Rattle.plan_kit.specs.declared.scales.ScalePlan.{ScalePlan}
use Rattle.plan_kit.specs.declared.views.ViewPlan.{ViewPlan, ViewPlan-F, fold-ViewPlan}
use Rattle.plan_kit.specs.declared.views.ViewPlan.TheOpen as level
use Rattle.vega_assemble.specs.declared.views.Held.{Held}
use Rattle.vega_assemble.specs.Drags.{copies_in, outer_names}
use Rattle.vega_assemble.specs.Facets.{facet_over, parts_by, grids_inside, scales_inside}
use Rattle.vega_assemble.specs.Guides.{axis_written, legend_written}
use Rattle.vega_assemble.specs.Keys.{sort_of}
use Rattle.vega_assemble.specs.Made.{Made, NoMarks, AGroup, MadeObject, MadeView, bare_object}
use Rattle.vega_assemble.specs.Marks.{unit_before}
use Rattle.vega_assemble.specs.Scales.{scale_written}
use Rattle.vega_assemble.specs.Sizes.{extent_of}
use Rattle.vega_assemble.specs.Steps.{counted}

-- ---- what belongs to a view

-- scales, and their legends, that stand in an object
abbrev pub nothing_held : Held
nothing_held = record { scales = []; legends = [] }

-- whether a scale stands once in a panel of a facet, or without one in the chart
abbrev pub is_same_holder : Option ℕ → Option ℕ → Bool
is_same_holder None None = true
is_same_holder None (Some facet) = false
is_same_holder (Some facet) None = false
is_same_holder (Some facet) (Some other) = facet == other

abbrev pub belongs_to : Option ℕ → ℕ × ScalePlan → Bool
belongs_to holder s = is_same_holder holder s.1.holder

abbrev pub scales_of : List ScalePlan → Option ℕ → List (ℕ × ScalePlan)
scales_of scales holder = filter (belongs_to holder) (enumerate_from 0 scales)

abbrev pub held_by : List ℕ → List ScalePlan → Option ℕ → Held
held_by stem scales holder = record {
  scales = map (scale_written stem scales) (scales_of scales holder);
  legends = filter_map (legend_written stem scales) (scales_of scales holder);
}

-- ---- plots

-- the marks of units by their numbers, in their order
abbrev pub unit_at : List ℕ → Plan → ℕ → Made → Made
unit_at stem p number others = option_map_or (λ u. unit_before stem p.scales u others) (slice_get p.units number) others

abbrev pub units_made : List ℕ → Plan → List ℕ → Made
units_made stem p [] = NoMarks
units_made stem p (number ∷ numbers) = unit_at stem p number (units_made stem p numbers)

abbrev pub plot_object : List ℕ → Plan → PlotPlan → Held → MadeObject
plot_object stem p plot held = record bare_object {
  scales = held.scales ++ copies_in stem p.scales p.selections plot.number;
  axes = map (axis_written stem p.scales) plot.axes;
  legends = held.legends;
  title = plot.title;
  extent = Some (extent_of stem p.scales plot);
}

abbrev pub plot_made : List ℕ → Plan → PlotPlan → Held → MadeView
plot_made stem p plot held = record { object = plot_object stem p plot held; marks = units_made stem p plot.units }

-- ---- grids

abbrev pub columns_written : GridColumns → Option ℤ
columns_written columns.OneRow = None
columns_written (columns.Count n) = Some (counted n)
columns_written columns.Crossed = None

abbrev pub layout_of : GridPlan → Layout
layout_of grid = record { padding = Some grid.spacing; columns = columns_written grid.columns }

abbrev pub grid_object : GridPlan → Held → MadeObject
grid_object grid held = record bare_object {
  scales = held.scales;
  layout = Some (layout_of grid);
  legends = held.legends;
  title = grid.title;
}

-- the facet of a group: it parts the lists that are read in its panels
abbrev pub parts_with : List ℕ → Plan → List GridPlan → GridPlan → FacetPlan → List (List ℕ)
parts_with stem p inside grid f =
    parts_by stem p.grids inside (scales_inside inside p.scales) grid.number f ++ outer_names stem p.selections (scales_inside inside p.scales)

abbrev pub facet_of : List ℕ → Plan → GridPlan → FacetPlan → Facet
facet_of stem p grid f = facet_over (parts_with stem p (grids_inside p.grids grid f) grid f) f

-- what a view is, once it is known what belongs to it
abbrev pub View : Type 0
View = Held → MadeView

-- a group for a view
abbrev pub as_group : MadeView → Made → Made
as_group v others = AGroup v.object v.marks others

abbrev pub in_panels : Facet → Option Sort → MadeView → MadeView
in_panels facet sort v = record v { object = record (v.object) { facet = Some facet; sort = sort } }

-- the groups of joined views, and the one group of a facet
abbrev pub joined : List View → Made
joined [] = NoMarks
joined (view ∷ views) = as_group (view nothing_held) (joined views)

abbrev pub faceted : List ℕ → Plan → GridPlan → FacetPlan → List View → Made
faceted stem p grid f [] = NoMarks
faceted stem p grid f (view ∷ views) =
    as_group (in_panels (facet_of stem p grid f) (sort_of stem f.fields) (view (held_by stem p.scales (Some grid.number)))) NoMarks

abbrev pub cells_of : List ℕ → Plan → GridPlan → List View → Made
cells_of stem p grid views = option_map_or (λ f. faceted stem p grid f views) grid.facet (joined views)

abbrev pub grid_made : List ℕ → Plan → List View → GridPlan → Held → MadeView
grid_made stem p views grid held = record { object = grid_object grid held; marks = cells_of stem p grid views }

-- ---- views

-- a view that isn't there; no tree of a plan has one
abbrev pub no_view : MadeView
no_view = record { object = bare_object; marks = NoMarks }

-- the plot at a place, and the grid there with these views
abbrev pub plot_at : List ℕ → Plan → ℕ → Held → MadeView
plot_at stem p place held = option_map_or (λ plot. plot_made stem p plot held) (slice_get p.plots place) no_view

abbrev pub grid_at : List ℕ → Plan → ℕ → List View → Held → MadeView
grid_at stem p place views held = option_map_or (λ grid. grid_made stem p views grid held) (slice_get p.grids place) no_view

abbrev pub view_here : List ℕ → Plan → ViewPlan-F View → View
view_here stem p (level.Plot place) held = plot_at stem p place held
view_here stem p (level.Grid place views) held = grid_at stem p place views held

-- the views of a plan
abbrev pub view_made : List ℕ → Plan → ViewPlan → View
view_made stem p = fold-ViewPlan View (view_here stem p)
