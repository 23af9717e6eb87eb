-- The views of a chart as a tree: a unit and a layer are plots, a faceted view and joined views are grids of what stands in them. Plots and grids are
-- told by their places among all plots and among all grids, counted from 0 in the order of the text, an outer grid before those in it.
use Rattle.std.specs.Prelude.{◌≡◌, refl, ℕ, ◌+◌, List, [], ◌∷◌}
use Rattle.vl_spec.specs.declared.spec.VlSpec.{VlSpec}
use Rattle.vl_spec.specs.declared.views.Faceted.{Faceted, Faceted-F, fold-Faceted}
use Rattle.vl_spec.specs.declared.views.Joined.{Joined, Joined-F, fold-Joined}
use Rattle.vl_spec.specs.declared.views.Layer.{Layer, Layer-F, fold-Layer}
use Rattle.vl_spec.specs.declared.views.View.{View, View-F, fold-View}
use Rattle.vl_spec.specs.declared.views.ViewKind.{ViewKind, ViewKind-F, fold-ViewKind}
use Rattle.vl_spec.specs.declared.views.ViewKind.TheOpen as level
use Rattle.chart_plan.specs.declared.views.Counted.{Counted}
use Rattle.plan_kit.specs.declared.views.ViewPlan.{ViewPlan}
use Rattle.plan_kit.specs.declared.views.ViewPlan.TheVariants.{Plot, Grid}

-- a view as a tree, once it is known how many plots and grids stand before it; and how many there are then
abbrev pub Tree : Type 0
Tree = Counted → ViewPlan × Counted

-- one more plot, and one more grid
abbrev pub and_plot : Counted → Counted
and_plot before = record { plots = before.plots + 1; grids = before.grids }

abbrev pub and_grid : Counted → Counted
and_grid before = record { plots = before.plots; grids = before.grids + 1 }

-- views behind each other
abbrev pub Trees : Type 0
Trees = Counted → List ViewPlan × Counted

-- a view before others
abbrev pub before_others : ViewPlan → List ViewPlan × Counted → List ViewPlan × Counted
before_others first others = (first ∷ others.0, others.1)

abbrev pub in_row : List Tree → Trees
in_row [] before = ([], before)
in_row (first ∷ others) before = before_others (first before).0 (in_row others (first before).1)

-- a plot
abbrev pub plot_tree : Tree
plot_tree before = (Plot before.plots, and_plot before)

-- a grid of views
abbrev pub grid_of : ℕ → List ViewPlan × Counted → ViewPlan × Counted
grid_of number inside = (Grid number inside.0, inside.1)

abbrev pub grid_tree : List Tree → Tree
grid_tree inside before = grid_of before.grids (in_row inside (and_grid before))

-- by what a view is
abbrev pub kind_here : ViewKind-F Tree Tree Tree Tree Tree → Tree
kind_here (level.Unit unit) = plot_tree
kind_here (level.Layer layer) = layer
kind_here (level.Facet faceted) = faceted
kind_here (level.Joined joined) = joined

abbrev pub faceted_here : Faceted-F Tree Tree Tree Tree Tree → Tree
faceted_here f = grid_tree (f.spec ∷ [])

abbrev pub joined_here : Joined-F Tree Tree Tree Tree Tree → Tree
joined_here j = grid_tree j.views

abbrev pub layer_here : Layer-F Tree Tree Tree Tree Tree → Tree
layer_here l = plot_tree

abbrev pub view_here : View-F Tree Tree Tree Tree Tree → Tree
view_here v = v.kind

abbrev pub tree_of : View → Tree
tree_of = fold-View Tree Tree Tree Tree Tree kind_here faceted_here joined_here layer_here view_here

abbrev pub kind_tree : ViewKind → Tree
kind_tree = fold-ViewKind Tree Tree Tree Tree Tree kind_here faceted_here joined_here layer_here view_here

abbrev pub faceted_tree : Faceted → Tree
faceted_tree = fold-Faceted Tree Tree Tree Tree Tree kind_here faceted_here joined_here layer_here view_here

abbrev pub joined_tree : Joined → Tree
joined_tree = fold-Joined Tree Tree Tree Tree Tree kind_here faceted_here joined_here layer_here view_here

abbrev pub layer_tree : Layer → Tree
layer_tree = fold-Layer Tree Tree Tree Tree Tree kind_here faceted_here joined_here layer_here view_here

-- nothing before
abbrev pub nothing : Counted
nothing = record { plots = 0; grids = 0 }

-- the views of a specification
abbrev pub view_of : VlSpec → ViewPlan
view_of s = (tree_of s.view nothing).0

-- The rules at work.

-- two plots side by side, and a grid of one below them
a_grid_in_a_grid : (grid_tree (grid_tree (plot_tree ∷ plot_tree ∷ []) ∷ grid_tree (plot_tree ∷ []) ∷ []) nothing).0
    ≡ Grid 0 (Grid 1 (Plot 0 ∷ Plot 1 ∷ []) ∷ Grid 2 (Plot 2 ∷ []) ∷ [])
a_grid_in_a_grid = refl
