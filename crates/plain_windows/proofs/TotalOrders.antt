-- The orders of rows are total, and what is put in order rises.
use Rattle.std.proofs.Common.{◌≡◌, Bool, true, false, cond, List, [], ◌∷◌, refl, sym, ◌∙◌}
use Rattle.std.specs.declared.cmp.Ordering.{Ordering}
use Rattle.std.specs.declared.cmp.Ordering.TheVariants.{Less, Equal, Greater}
use Rattle.std.specs.Ordering.{is_lt, is_gt}
use Rattle.std.specs.Cmp.{IsTotalOrder, then_total, on_total, back_total, nat_cmp_total}
use Rattle.std.proofs.lemmas.Bool.{cond_both}
use Rattle.std.proofs.lemmas.Cmp.{upto}
use Rattle.cell_value.specs.declared.state.Key.{Key}
use Rattle.cell_value.specs.Cell.{cell_cmp}
use Rattle.cell_value.specs.Datum.{Datum}
use Rattle.cell_value.specs.inner.CellOrder.{cell_cmp_total}
use Rattle.plain_rows.specs.declared.transforms.SortBy.{SortBy}
use Rattle.plain_orders.specs.Orders.{by_field, by_fields, by_key, row_order, placed, in_order}
use Rattle.plain_windows.specs.Frames.{peer_order}
use Rattle.plain_windows.specs.inner.Rising.{AtMost, From, Rises}
use Rattle.plain_windows.proofs.RisingLemmas.{flipped}

by_key_total : IsTotalOrder by_key
by_key_total = then_total (on_total (λ (key : Key). key.id) nat_cmp_total) (on_total (λ (key : Key). key.branch) nat_cmp_total)

by_field_total : (s : SortBy) → IsTotalOrder (by_field s)
by_field_total s = either s.descending
  where
    either : (b : Bool) → IsTotalOrder (λ (x y : Datum). cond b (cell_cmp (y.cell s.field) (x.cell s.field))
        (cell_cmp (x.cell s.field) (y.cell s.field)))
    either true = on_total (λ (row : Datum). row.cell s.field) (back_total cell_cmp_total)
    either false = on_total (λ (row : Datum). row.cell s.field) cell_cmp_total

by_fields_total : (sort : List SortBy) → IsTotalOrder (by_fields sort)
by_fields_total [] = record { antisymm = λ x y. refl; trans = λ x y z e f. e; congr = λ x y z e. refl }
by_fields_total (s ∷ sort) = then_total (by_field_total s) (by_fields_total sort)

pub row_order_total : (sort : List SortBy) → IsTotalOrder (row_order sort)
row_order_total sort = then_total (by_fields_total sort) (on_total (λ (row : Datum). row.key) by_key_total)

pub peer_order_total : (sort : List SortBy) → IsTotalOrder (peer_order sort)
peer_order_total [] = on_total (λ (row : Datum). row.key) by_key_total
peer_order_total (s ∷ sort) = by_fields_total (s ∷ sort)

less_is_not_greater : (r : Ordering) → is_lt r ≡ true → is_gt r ≡ false
less_is_not_greater Less e = refl
less_is_not_greater Equal e = refl
less_is_not_greater Greater e = absurd (cc)

module _ {X : Type 0} {c : X → X → Ordering} (o : IsTotalOrder c) where
  from_less : (l m : X) (ns : List X) → AtMost c l m → From c m ns → From c l ns
  from_less l m [] h f = tt
  from_less l m (n ∷ ns) h f = (upto o l m n h f.0, from_less l m ns h f.1)

  from_placed : (m n : X) (ns : List X) → AtMost c m n → From c m ns → From c m (placed c n ns)
  from_placed m n [] h f = (h, tt)
  from_placed m n (k ∷ ks) h f =
      cond_both (is_lt (c k n)) (k ∷ placed c n ks) (n ∷ k ∷ ks) (From c m) (λ _. (f.0, from_placed m n ks h f.1)) (λ _. (h, f))

  rises_placed : (n : X) (ns : List X) → Rises c ns → Rises c (placed c n ns)
  rises_placed n [] r = (tt, tt)
  rises_placed n (k ∷ ks) r =
      cond_both (is_lt (c k n)) (k ∷ placed c n ks) (n ∷ k ∷ ks) (Rises c)
      (λ e. (from_placed k n ks (less_is_not_greater (c k n) e) r.0, rises_placed n ks r.1))
      (λ e. let below : AtMost c n k = sym (flipped c o n k) ∙ e in ((below, from_less n k ks below r.0), r))

  -- a list in order rises
  pub rises_in_order : (ns : List X) → Rises c (in_order c ns)
  rises_in_order [] = tt
  rises_in_order (n ∷ ns) = rises_placed n (in_order c ns) (rises_in_order ns)
