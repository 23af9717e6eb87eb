-- Orders are read back.
use Rattle.std.proofs.Common.{◌≡◌, ℕ, List, [], map, refl, ap, ◌∙◌}
use Rattle.std.specs.Option.{unwrap_or}
use Rattle.std.specs.Prelude.{Some, codes}
use Rattle.json_exact.specs.Path.{member_value}
use Rattle.json_exact.specs.declared.json.Json.{out-Json}
use Rattle.json_exact.specs.declared.json.Member.{Member}
use Rattle.vega_spec.specs.declared.orders.Order.{Order}
use Rattle.vega_spec.specs.declared.orders.Orders.{Orders}
use Rattle.vega_spec.specs.declared.orders.Sort.{Sort}
use Rattle.vega_spec.specs.declared.orders.Texts.{Texts}
use Rattle.vega_building.specs.Names.{order_of}
use Rattle.vega_building.specs.Orders.{texts_in, orders_in, sort_of}
use Rattle.vega_writing.specs.Orders.{order_tree, orders_tree, texts_tree, sort_slots}
use Rattle.vega_writing.specs.Slots.{present}
use Rattle.vega_writing.specs.Trees.{text_tree}
use Rattle.vega_model.proofs.Back.{opened_text, opened_list, each, map_back, must_found, may_found_always, text_back}
use Rattle.vega_model.proofs.Found.{at_name, found}
use Rattle.vega_model.proofs.Words.{order_back}
use Rattle.vega_spec.specs.declared.orders.Order.TheVariants as order
use Rattle.vega_spec.specs.declared.orders.Texts.TheVariants as texts
use Rattle.vega_spec.specs.declared.orders.Orders.TheVariants as orders
use Rattle.vega_building.specs.Parts as parts

pub texts_reads : (t : Texts) → texts_in (out-Json (texts_tree t)) ≡ Some t
unfolding texts_tree
texts_reads (texts.One text) = ap texts_in (opened_text text)
texts_reads (texts.Several several) =
    ap texts_in (opened_list (map text_tree several))
    ∙ ap (λ ts. Some (texts.Several ts))
    (map_back parts.text_of text_tree several (each (λ x. parts.text_of (text_tree x) ≡ x) text_back several))

order_in : (x : Order) → orders_in (out-Json (order_tree x)) ≡ Some (orders.One x)
unfolding order_tree
order_in order.Ascending = ap orders_in (opened_text (codes "ascending"))
order_in order.Descending = ap orders_in (opened_text (codes "descending"))

pub orders_reads : (o : Orders) → orders_in (out-Json (orders_tree o)) ≡ Some o
unfolding orders_tree
orders_reads (orders.One order) = order_in order
orders_reads (orders.Several several) =
    ap orders_in (opened_list (map order_tree several))
    ∙ ap (λ ts. Some (orders.Several ts))
    (map_back order_of order_tree several (each (λ x. order_of (order_tree x) ≡ x) order_back several))

-- an order by fields is read back
pub sort_back : (s : Sort) → sort_of (present (sort_slots s)) ≡ s
unfolding sort_slots
sort_back s =
    let ms : List Member = present (sort_slots s) in
    let at : (name : List ℕ) → member_value ms name ≡ at_name (sort_slots s) name = λ name. found (sort_slots s) name refl in
    λ j. record {
      field = ap (λ o. unwrap_or o (texts.One []))
          (must_found ms (codes "field") texts_in (texts_tree s.field) s.field (at (codes "field")) (texts_reads s.field)) j;
      order = may_found_always ms (codes "order") orders_in orders_tree s.order (at (codes "order")) orders_reads j;
    }
