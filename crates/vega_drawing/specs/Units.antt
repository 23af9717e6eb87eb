-- Items in the order of their marks.
use Rattle.std.specs.Prelude.{◌≡◌, refl, ℕ, pos, Some, None, List, [], ◌∷◌, unwrap_or}
use Rattle.std.specs.declared.cmp.Ordering.{Ordering}
use Rattle.std.specs.Ordering.{nat_cmp}
use Rattle.plain_orders.specs.Orders.{in_order}
use Rattle.scene_tree.specs.declared.scene.Item.{Item}
use Rattle.scene_tree.specs.declared.shape.Shape.TheVariants.{Rect}

-- items by the numbers of their marks, those of one mark as they stand
abbrev pub unit_of : Item → ℕ
unit_of item = unwrap_or item.unit 0

abbrev pub by_unit : Item → Item → Ordering
by_unit a b = nat_cmp (unit_of a) (unit_of b)

abbrev pub in_unit_order : List Item → List Item
in_unit_order items = in_order by_unit items

-- The rule at work.

abbrev an_item : ℕ → ℕ → Item
an_item unit x = record {
  shape = Rect (pos x) (pos 0) (pos 1) (pos 1);
  fill = None;
  stroke = None;
  stroke_width = pos 1;
  opacity = pos 1;
  unit = Some unit;
  key = None;
}

items_by_their_marks : in_unit_order (an_item 1 1 ∷ an_item 0 2 ∷ an_item 1 3 ∷ an_item 0 4 ∷ [])
    ≡ an_item 0 2 ∷ an_item 0 4 ∷ an_item 1 1 ∷ an_item 1 3 ∷ []
items_by_their_marks = refl
