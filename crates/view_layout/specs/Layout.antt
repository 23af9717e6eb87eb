-- How the boxes of a tree stand.
use Rattle.std.specs.Prelude.{◌≡◌, refl, ℕ, ◌*◌, max, ℤ, pos, Bool, true, false, if◌then◌else◌, List, [], ◌∷◌, ◌++◌, map, flat_map, zip}
use Rattle.fixed_num.specs.Number.{million}
use Rattle.view_layout.specs.declared.spans.Span.{Span}
use Rattle.view_layout.specs.declared.boxes.BoxOf.{BoxOf}
use Rattle.view_layout.specs.declared.boxes.BoxTree.{BoxTree, BoxTree-F, fold-BoxTree}
use Rattle.view_layout.specs.declared.boxes.BoxTree.TheOpen as form
use Rattle.view_layout.specs.declared.boxes.Laid.{Laid}
use Rattle.view_layout.specs.declared.boxes.LaidWithTitles.{LaidWithTitles}
use Rattle.view_layout.specs.declared.boxes.PlaceOf.{PlaceOf}
use Rattle.view_layout.specs.declared.plan.Standing.{Standing}
use Rattle.view_layout.specs.declared.plan.Standing.TheVariants.{Plot, Title}
use Rattle.view_layout.specs.Lengths.{plus, length_of, number_of, title_height}
use Rattle.view_layout.specs.Grid.{whole, columns_of, rows_of, positions, extent, corners_of}

-- what stands in a cell whose corner is moved to x, y: its plots, and the titles of its grids
abbrev pub Places : Type 0
Places = ℕ → ℕ → List Standing

-- a cell: what it takes up from left to right and from top to bottom, and what stands in it
pub record Cell : Type 0 where
  pub across : Span
  pub down : Span
  pub places : Places

-- a place in numbers, of something of this width
abbrev pub place_of : ℤ → ℕ → ℕ → PlaceOf
place_of width x y = record { x = number_of x; y = number_of y; width = width }

-- a plot's span in one direction
abbrev pub span_of : ℤ → ℤ → ℤ → Span
span_of before size behind = record { before = length_of before; behind = plus (length_of size) (length_of behind) }

-- a plot as a cell: the plot stands at the cell's corner
abbrev pub leaf_of : BoxOf → Cell
leaf_of b = record {
  across = span_of b.left b.width b.right;
  down = span_of b.top b.height b.bottom;
  places = λ x y. Plot (place_of (number_of (length_of b.width)) x y) ∷ [];
}

-- what takes up a length, without an extent before it
abbrev pub without_extent : ℕ → Span
without_extent size = record { before = 0; behind = size }

-- what stands in cells that stand at corners
abbrev pub places_in : List Places → List (ℕ × ℕ) → Places
places_in cells corners x y = flat_map (λ cell. cell.0 (plus x cell.1.0) (plus y cell.1.1)) (zip cells corners)

-- the title of a grid, where it has one: at the grid's corner, and as wide as the grid
abbrev pub title_at : Bool → ℤ → Places
title_at title width x y = if title then Title (place_of width x y) ∷ [] else []

-- what stands in a grid: its title, and then what stands in its cells
abbrev pub places_below : Bool → ℤ → Places → Places
places_below title width cells x y = title_at title width x y ++ cells x y

-- the corners of a grid's cells: columns and rows stand behind each other with gaps, the rows below the title
abbrev pub grid_corners : ℕ → ℕ → List Span → List Span → List (ℕ × ℕ)
grid_corners gap above columns rows = corners_of (positions 0 gap columns) (positions above gap rows)

-- a grid as a cell, from its columns and rows and what stands in its cells; it has no extents: headers and axes of its plots lie inside it
abbrev pub grid_by : ℕ → Bool → List Span → List Span → List Places → Cell
grid_by gap title columns rows places =
    let across = without_extent (extent gap columns) in
    record {
      across = across;
      down = without_extent (plus (title_height title) (extent gap rows));
      places = places_below title (number_of (whole across)) (places_in places (grid_corners gap (title_height title) columns rows));
    }

-- a grid of n columns as a cell, from what its cells take up across and down, and what stands in them
abbrev pub grid_of : ℕ → ℕ → Bool → List Span → List Span → List Places → Cell
grid_of n gap title across down places = grid_by gap title (columns_of n across) (rows_of n down) places

-- a box or a grid as a cell, from the cells of what is in it; a grid has one column at least
abbrev pub cell_here : BoxTree-F Cell → Cell
cell_here (form.Leaf b) = leaf_of b
cell_here (form.Grid columns spacing title cells) =
    grid_of (max columns 1) (length_of spacing) title (map (λ (cell : Cell). cell.across) cells) (map (λ (cell : Cell). cell.down) cells)
    (map (λ (cell : Cell). cell.places) cells)

-- a tree of boxes as a cell
abbrev pub cell_of : BoxTree → Cell
cell_of = fold-BoxTree Cell cell_here

-- what stands in a cell as the whole: its corner stands behind its extents
abbrev pub standing_in : Cell → List Standing
standing_in cell = cell.places cell.across.before cell.down.before

-- the corner of a plot; that of a title doesn't count
abbrev pub plot_corner : Standing → List (ℤ × ℤ)
plot_corner (Plot place) = (place.x, place.y) ∷ []
plot_corner (Title place) = []

-- a cell as the whole
abbrev pub laid_of : Cell → Laid
laid_of cell = record {
  places = flat_map plot_corner (standing_in cell);
  width = number_of (whole cell.across);
  height = number_of (whole cell.down);
}

-- how the boxes of a tree stand
abbrev pub layout_of : BoxTree → Laid
layout_of t = laid_of (cell_of t)

-- the place of a plot or a title
abbrev pub place_standing : Standing → PlaceOf
place_standing (Plot place) = place
place_standing (Title place) = place

-- a cell as the whole, with the titles of its grids
abbrev pub laid_with_titles_of : Cell → LaidWithTitles
laid_with_titles_of cell = record {
  places = map place_standing (standing_in cell);
  width = number_of (whole cell.across);
  height = number_of (whole cell.down);
}

-- how the boxes of a tree and the titles of its grids stand
abbrev pub layout_with_titles_of : BoxTree → LaidWithTitles
layout_with_titles_of t = laid_with_titles_of (cell_of t)

-- what stands with titles is what stands without them, and the titles among it; the size is the same
pub record HasPlotsOf (titled : LaidWithTitles) (plain : Laid) : Type 0 where
  pub width : titled.width ≡ plain.width
  pub height : titled.height ≡ plain.height
  pub standing : List Standing
  pub places : titled.places ≡ map place_standing standing
  pub plots : plain.places ≡ flat_map plot_corner standing

-- titles leave the plots where they stand
abbrev pub TitlesMoveNothing : Type 0
TitlesMoveNothing = (t : BoxTree) → HasPlotsOf (layout_with_titles_of t) (layout_of t)

-- The rules at work.

abbrev pixels : ℕ → ℤ
pixels n = pos (n * million)

-- a plot of a width and a height, with what stands to the left of it, above it and to the right
abbrev plot : ℕ → ℕ → ℕ → ℕ → ℕ → Cell
plot left top width height right =
    leaf_of (record {
      left = pixels left;
      top = pixels top;
      width = pixels width;
      height = pixels height;
      right = pixels right;
      bottom = pixels 0;
    })

abbrev grid : ℕ → Bool → List Cell → Cell
grid columns title cells = cell_here (form.Grid columns (pixels 20) title cells)

two_plots_side_by_side : laid_of (grid 2 false (plot 10 0 50 40 0 ∷ plot 20 0 30 40 5 ∷ []))
    ≡ record { places = (pixels 10, pixels 0) ∷ (pixels 100, pixels 0) ∷ []; width = pixels 135; height = pixels 40 }
two_plots_side_by_side = refl

-- two plots of 100 by 20 with 15 above them, side by side in a grid, and beside that grid a plot of 20 by 200
abbrev a_grid_beside_a_plot : Bool → Cell
a_grid_beside_a_plot title = grid 2 false (grid 2 title (plot 0 15 100 20 0 ∷ plot 0 15 100 20 0 ∷ []) ∷ plot 0 0 20 200 0 ∷ [])

abbrev place : ℕ → ℕ → ℕ → PlaceOf
place x y width = record { x = pixels x; y = pixels y; width = pixels width }

without_a_title : laid_with_titles_of (a_grid_beside_a_plot false)
    ≡ record { places = place 0 15 100 ∷ place 120 15 100 ∷ place 240 0 20 ∷ []; width = pixels 260; height = pixels 200 }
without_a_title = refl

-- the title stands before the plots of its grid, is as wide as the grid, and moves them down by 23
a_title_above_the_plots : laid_with_titles_of (a_grid_beside_a_plot true)
    ≡ record { places = place 0 0 220 ∷ place 0 38 100 ∷ place 120 38 100 ∷ place 240 0 20 ∷ []; width = pixels 260; height = pixels 200 }
a_title_above_the_plots = refl

the_plots_below_the_title : laid_of (a_grid_beside_a_plot true)
    ≡ record { places = (pixels 0, pixels 38) ∷ (pixels 120, pixels 38) ∷ (pixels 240, pixels 0) ∷ []; width = pixels 260; height = pixels 200 }
the_plots_below_the_title = refl

-- a grid without cells has its title, of no width
a_title_above_nothing : laid_with_titles_of (grid 2 true []) ≡ record { places = place 0 0 0 ∷ []; width = pixels 0; height = pixels 23 }
a_title_above_nothing = refl
