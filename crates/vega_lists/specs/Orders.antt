-- The orders that specifications ask for.
use Rattle.std.specs.Prelude.{◌≡◌, refl, ℕ, Bool, true, false, Option, Some, None, List, [], ◌∷◌, map, slice_get, unwrap_or, codes}
use Rattle.std.specs.List.{enumerate_from}
use Rattle.std.specs.Option.{option_map_or}
use Rattle.plain_rows.specs.declared.transforms.SortBy.{SortBy}
use Rattle.vega_spec.specs.declared.orders.Texts.{Texts}
use Rattle.vega_spec.specs.declared.orders.Texts.TheVariants as texts
use Rattle.vega_spec.specs.declared.orders.Order.{Order}
use Rattle.vega_spec.specs.declared.orders.Order.TheVariants.{Ascending, Descending}
use Rattle.vega_spec.specs.declared.orders.Orders.{Orders}
use Rattle.vega_spec.specs.declared.orders.Orders.TheVariants as orders
use Rattle.vega_spec.specs.declared.orders.Sort.{Sort}

-- one text or several, as a list
abbrev pub texts_in : Texts → List (List ℕ)
texts_in (texts.One text) = text ∷ []
texts_in (texts.Several several) = several

abbrev pub is_descending : Order → Bool
is_descending Ascending = false
is_descending Descending = true

-- the direction of the field at a place: the one that stands alone, or that of its place; ascending without one
abbrev pub order_at : Option Orders → ℕ → Order
order_at None place = Ascending
order_at (Some (orders.One order)) place = order
order_at (Some (orders.Several several)) place = unwrap_or (slice_get several place) Ascending

-- the field at a place with its direction
abbrev pub sort_by : Option Orders → ℕ × List ℕ → SortBy
sort_by order at = record { field = at.1; descending = is_descending (order_at order at.0) }

-- the fields of an order, each with its direction
abbrev pub sort_settings : Sort → List SortBy
sort_settings s = map (sort_by s.order) (enumerate_from 0 (texts_in s.field))

-- none without an order
abbrev pub sort_or_empty : Option Sort → List SortBy
sort_or_empty sort = option_map_or sort_settings sort []

-- The rules at work.

an_order_by_one_field : sort_settings record { field = texts.One (codes "a"); order = Some (orders.One Descending) }
    ≡ record { field = codes "a"; descending = true } ∷ []
an_order_by_one_field = refl

an_order_by_two_fields : sort_settings record {
  field = texts.Several (codes "a" ∷ codes "b" ∷ []);
  order = Some (orders.Several (Descending ∷ Ascending ∷ []));
} ≡ record { field = codes "a"; descending = true } ∷ record { field = codes "b"; descending = false } ∷ []
an_order_by_two_fields = refl

without_directions : sort_settings record { field = texts.One (codes "a"); order = None } ≡ record { field = codes "a"; descending = false } ∷ []
without_directions = refl
