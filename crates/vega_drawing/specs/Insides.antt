-- What the marks in a copy of an object draw in the plot round them.
use Rattle.std.specs.Prelude.{ℕ, Option, Some, List, [], ◌∷◌, ◌++◌, map}
use Rattle.std.specs.Option.{option_map}
use Rattle.fixed_num.specs.Ranges.{◌>>=◌, all_found}
use Rattle.scene_tree.specs.declared.scene.Item.{Item}
use Rattle.plot_scenes.specs.declared.legends.LegendShown.{LegendShown}
use Rattle.plot_scenes.specs.declared.axes.AxisShown.{AxisShown}
use Rattle.vega_copies.specs.Outlines.{Object, PlainMark, Marks, NoMarks, AMark, AGroup}
use Rattle.vega_copies.specs.Facts.{Found, CopyFound, first_copies, behind_first}
use Rattle.vega_drawing.specs.Frames.{Frame, moved_copy}
use Rattle.vega_drawing.specs.Guides.{axes_over, own_axes, legends_in}

-- Who makes the items of marks: those of a mark of this number in a copy of the object that has it. None where a number is out of range.
abbrev pub ItemsOfMarks : Type 0
ItemsOfMarks = ℕ → PlainMark → Frame → Option (List Item)

-- What the marks in a copy of an object draw in the plot round them.
pub record Inside : Type 0 where
  -- those that stand, each over its scale
  pub axes : List AxisShown
  pub legends : List LegendShown
  pub items : List Item

abbrev pub nothing_inside : Inside
nothing_inside = record { axes = []; legends = []; items = [] }

abbrev pub items_inside : List Item → Inside
items_inside items = record { axes = []; legends = []; items = items }

-- what some draw, and then others
abbrev pub and_inside : Inside → Inside → Inside
and_inside a b = record { axes = a.axes ++ b.axes; legends = a.legends ++ b.legends; items = a.items ++ b.items }

abbrev pub all_inside : List Inside → Inside
all_inside [] = nothing_inside
all_inside (first ∷ others) = and_inside first (all_inside others)

-- the axes and the legends of a copy of an object, before those of the groups in it
abbrev pub with_guides : Object → Frame → Inside → Inside
with_guides o frame inside = record inside {
  axes = axes_over frame.width frame.height (own_axes o frame) ++ inside.axes;
  legends = legends_in o frame ++ inside.legends;
}

-- What marks draw in a copy of the object that has them, in the order of the text: a mark its items, and a group what each of its copies
-- draws. None where a number is out of range.
abbrev pub drawn_in : ItemsOfMarks → Marks → Found → Frame → Option Inside
drawn_in items NoMarks found frame = Some nothing_inside
drawn_in items (AMark unit m others) found frame = do
  own ← items unit m frame
  rest ← drawn_in items others (behind_first found) frame
  Some (and_inside (items_inside own) rest)
drawn_in items (AGroup o inside others) found frame = do
  copies ← all_found (map (λ (copy : CopyFound). moved_copy frame o copy.facts >>= λ here.
      option_map (with_guides o here) (drawn_in items inside copy.inside here)) (first_copies found))
  rest ← drawn_in items others (behind_first found) frame
  Some (and_inside (all_inside copies) rest)
