-- The trees of orders, and of what may be one text or a list.
use Rattle.std.specs.Prelude.{List, [], ◌∷◌, option_map, codes}
use Rattle.json_exact.specs.declared.json.Json.{Json}
use Rattle.vega_writing.specs.declared.slots.Slot.{Slot}
use Rattle.vega_spec.specs.declared.orders.Order.{Order}
use Rattle.vega_spec.specs.declared.orders.Order.TheVariants as order
use Rattle.vega_spec.specs.declared.orders.Sort.{Sort}
use Rattle.vega_spec.specs.declared.orders.Texts.{Texts}
use Rattle.vega_spec.specs.declared.orders.Texts.TheVariants as texts
use Rattle.vega_spec.specs.declared.orders.Orders.{Orders}
use Rattle.vega_spec.specs.declared.orders.Orders.TheVariants as orders
use Rattle.vega_writing.specs.Slots.{must, may, object}
use Rattle.vega_writing.specs.Trees.{text_tree, list_tree}

-- a direction
unfoldable pub order_tree : Order → Json
order_tree order.Ascending = text_tree (codes "ascending")
order_tree order.Descending = text_tree (codes "descending")

-- one text, or a list of them
unfoldable pub texts_tree : Texts → Json
texts_tree (texts.One text) = text_tree text
texts_tree (texts.Several several) = list_tree text_tree several

-- one direction, or a list of them
unfoldable pub orders_tree : Orders → Json
orders_tree (orders.One order) = order_tree order
orders_tree (orders.Several several) = list_tree order_tree several

-- an order by fields: its members
unfoldable pub sort_slots : Sort → List Slot
sort_slots s = must (codes "field") (texts_tree s.field) ∷ may (codes "order") (option_map orders_tree s.order) ∷ []

abbrev pub sort_tree : Sort → Json
sort_tree s = object (sort_slots s)
