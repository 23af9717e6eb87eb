-- What a plan and the cells of a grid stand for.
use Rattle.std.specs.Prelude.{◌≡◌, List, [], ◌∷◌, map}
use Rattle.view_layout.specs.declared.plan.Plan.{Plan, Plan-F, fold-Plan}
use Rattle.view_layout.specs.declared.plan.Plan.TheOpen as form
use Rattle.view_layout.specs.declared.plan.Standing.TheVariants as standing
use Rattle.view_layout.specs.declared.grid.Arranged.{Arranged}
use Rattle.view_layout.specs.declared.grid.Cells.{Cells}
use Rattle.view_layout.specs.Layout.{Cell, Places, place_of, places_in, places_below}

-- what stands in a plan, from what stands in the plans in it
abbrev pub places_here : Plan-F Places → Places
places_here (form.Plot width) = λ x y. standing.Plot (place_of width x y) ∷ []
places_here (form.Grid title width corners cells) = places_below title width (places_in cells corners)

-- what stands in a plan
abbrev pub places_of : Plan → Places
places_of = fold-Plan Places places_here

-- the cell that is made
abbrev pub seen : Arranged → Cell
seen made = record { across = made.across; down = made.down; places = places_of made.plan }

-- the cells that are made are these
pub record AreSeen (made : Cells) (cells : List Cell) : Type 0 where
  pub across : made.across ≡ map (λ (cell : Cell). cell.across) cells
  pub down : made.down ≡ map (λ (cell : Cell). cell.down) cells
  pub places : map places_of made.plans ≡ map (λ (cell : Cell). cell.places) cells
