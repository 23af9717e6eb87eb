-- Orders, and what may be one text or a list.
use Rattle.std.specs.Prelude.{ℕ, Option, Some, None, List, [], map, codes}
use Rattle.std.specs.Option.{option_map, unwrap_or}
use Rattle.json_exact.specs.declared.json.Json.TheOpen as level
use Rattle.json_exact.specs.declared.json.Member.{Member}
use Rattle.vega_spec.specs.declared.orders.Texts.{Texts}
use Rattle.vega_spec.specs.declared.orders.Texts.TheVariants as texts
use Rattle.vega_spec.specs.declared.orders.Orders.{Orders}
use Rattle.vega_spec.specs.declared.orders.Orders.TheVariants as orders
use Rattle.vega_spec.specs.declared.orders.Sort.{Sort}
use Rattle.tree_readers.specs.Parts.{Opened, found_at, text_of}
use Rattle.vega_building.specs.Names.{order_named, order_of}

-- one text, or a list of them
abbrev pub texts_in : Opened → Option Texts
texts_in (level.Text text) = Some (texts.One text)
texts_in (level.List items) = Some (texts.Several (map text_of items))
texts_in other = None

-- the same under a name
abbrev pub texts_at : List Member → List ℕ → Option Texts
texts_at = found_at texts_in

-- one text, or a list of them; the empty text where there is none
abbrev pub needed_one_or_several : List Member → List ℕ → Texts
needed_one_or_several members name = unwrap_or (texts_at members name) (texts.One [])

-- one direction
abbrev pub one_order : List ℕ → Option Orders
one_order name = option_map orders.One (order_named name)

-- one direction, or a list of them
abbrev pub orders_in : Opened → Option Orders
orders_in (level.Text text) = one_order text
orders_in (level.List items) = Some (orders.Several (map order_of items))
orders_in other = None

-- the same under a name
abbrev pub orders_at : List Member → List ℕ → Option Orders
orders_at = found_at orders_in

-- an order by fields
abbrev pub sort_of : List Member → Sort
sort_of members = record {
  field = needed_one_or_several members (codes "field");
  order = orders_at members (codes "order");
}
