-- The order of rows by their places.
use Rattle.std.proofs.Common.{◌≡◌, ℕ, ◌<◌, suc, Bool, true, false, cond, List, [], ◌∷◌, map, length, get_or, All, AllPairs}
use Rattle.std.proofs.Common.{inl, inr, arith, refl, sym, ap, ap₂, ◌∙◌, subst}
use Rattle.std.specs.declared.cmp.Ordering.{Ordering}
use Rattle.std.specs.declared.cmp.Ordering.TheVariants.{Less, Equal, Greater}
use Rattle.std.specs.Ordering.{MatchOrdering, nat_cmp, ordering_reverse, ordering_then}
use Rattle.std.specs.Cmp.{IsTotalOrder, then_total, on_total, back_total, nat_cmp_total, tied_itself}
use Rattle.std.specs.Cmp.Lexicographic.{slice_cmp}
use Rattle.std.proofs.lemmas.Cmp.{ranked}
use Rattle.std.proofs.lemmas.List.{get_or-map, length-map}
use Rattle.std.proofs.lemmas.List.Elements.{All-head, All-tail}
use Rattle.cell_value.specs.declared.state.Key.{Key}
use Rattle.cell_value.specs.declared.state.Keyed.{Keyed}
use Rattle.cell_value.specs.Cell.{cell_cmp}
use Rattle.cell_value.specs.Datum.{Datum, datum_of}
use Rattle.cell_value.specs.inner.CellOrder.{cell_cmp_total}
use Rattle.plain_rows.specs.declared.transforms.SortBy.{SortBy}
use Rattle.plain_rows.specs.Rows.{AreRows, IsBefore, keys_of}
use Rattle.plain_groups.specs.inner.Places.{row_at}
use Rattle.plain_orders.specs.declared.entries.SortCell.TheVariants.{Rising, Falling}
use Rattle.plain_orders.specs.Orders.{by_field, by_fields, by_key, row_order}
use Rattle.plain_orders.specs.Partitions.{datum_at}
use Rattle.plain_orders.specs.inner.Entries.{sort_cell_cmp, sort_cell, sort_cells, entry_cells_cmp, entry_of}
use Rattle.plain_orders.proofs.OrderLemmas.{Each, AreApart}

abbrev id_of : Key → ℕ
id_of key = key.id

abbrev branch_of : Key → ℕ
branch_of key = key.branch

by_key_total : IsTotalOrder by_key
by_key_total = then_total (on_total id_of nat_cmp_total) (on_total branch_of nat_cmp_total)

abbrev key_of : Datum → Key
key_of row = row.key

by_field_total : (s : SortBy) → IsTotalOrder (by_field s)
by_field_total s = either s.descending
  where
    either : (b : Bool) → IsTotalOrder (λ (x y : Datum). cond b (cell_cmp (y.cell s.field) (x.cell s.field))
        (cell_cmp (x.cell s.field) (y.cell s.field)))
    either true = on_total (λ (row : Datum). row.cell s.field) (back_total cell_cmp_total)
    either false = on_total (λ (row : Datum). row.cell s.field) cell_cmp_total

all_tie : IsTotalOrder (λ (x y : Datum). Equal)
all_tie = record { antisymm = λ x y. refl; trans = λ x y z e f. e; congr = λ x y z e. refl }

by_fields_total : (sort : List SortBy) → IsTotalOrder (by_fields sort)
by_fields_total [] = all_tie
by_fields_total (s ∷ sort) = then_total (by_field_total s) (by_fields_total sort)

-- the order of rows is total
pub row_order_total : (sort : List SortBy) → IsTotalOrder (row_order sort)
row_order_total sort = then_total (by_fields_total sort) (on_total key_of by_key_total)

to_less : (m n : ℕ) (r : Ordering) → MatchOrdering r (m < n) (m ≡ n) (n < m) → m < n → r ≡ Less
to_less m n Less h l = refl
to_less m n Equal h l = absurd (omega (arith, h, l))
to_less m n Greater h l = absurd (omega (arith, h, l))

less_of : (m n : ℕ) → m < n → nat_cmp m n ≡ Less
less_of m n l = to_less m n (nat_cmp m n) (ranked m n (nat_cmp m n) refl) l

before_is_less : (a b : Key) → IsBefore a b → by_key a b ≡ Less
before_is_less a b (inl h) = ap (λ r. ordering_then r (nat_cmp a.branch b.branch)) (less_of a.id b.id h)
before_is_less a b (inr h) =
    ap (λ n. ordering_then (nat_cmp a.id n) (nat_cmp a.branch b.branch)) (sym h.0)
    ∙ ap (λ r. ordering_then r (nat_cmp a.branch b.branch)) (tied_itself nat_cmp_total a.id)
    ∙ less_of a.branch b.branch h.1

module _ (rows : List Keyed) (are : AreRows rows) where
  abbrev seen : List Datum
  seen = map datum_of rows

  -- the row at a place
  pub row_there : (p : ℕ) (row : Keyed) → p < length rows → row ≡ get_or rows p row → datum_at seen p ≡ datum_of row
  row_there p row below is = get_or-map datum_of rows p row _ below ∙ ap datum_of (sym is)

  abbrev keyed_key : Keyed → Key
  keyed_key row = row.key

  key_there : (p : ℕ) (k : Key) → p < length rows → get_or (keys_of rows) p k ≡ (datum_at seen p).key
  key_there p k below = get_or-map keyed_key rows p (row_at rows p) k below
      ∙ ap key_of (sym (get_or-map datum_of rows p (row_at rows p) _ below))

  rise : (p q : ℕ) → p < q → q < length rows → IsBefore (datum_at seen p).key (datum_at seen q).key
  rise p q less below =
      let k : Key = record { id = 0; branch = 0 } in
      subst (λ a. IsBefore a (datum_at seen q).key) (key_there p k (omega (arith, less, below)))
      (subst (λ b. IsBefore (get_or (keys_of rows) p k) b) (key_there q k below)
      (are.rise p q k less (omega (arith, below, length-map rows keyed_key))))

  -- keys stand as their places do
  pub by_place : (p q : ℕ) → p < length rows → q < length rows → by_key (datum_at seen p).key (datum_at seen q).key ≡ nat_cmp p q
  by_place p q first second = decide (nat_cmp p q) (ranked p q (nat_cmp p q) refl)
    where
      decide : (r : Ordering) → MatchOrdering r (p < q) (p ≡ q) (q < p) → by_key (datum_at seen p).key (datum_at seen q).key ≡ r
      decide Less h = before_is_less (datum_at seen p).key (datum_at seen q).key (rise p q h second)
      decide Equal h = ap (λ k. by_key (datum_at seen p).key (datum_at seen k).key) (sym h) ∙ tied_itself by_key_total (datum_at seen p).key
      decide Greater h =
          by_key_total.antisymm (datum_at seen p).key (datum_at seen q).key
          ∙ ap ordering_reverse (before_is_less (datum_at seen q).key (datum_at seen p).key (rise q p h first))

by_cell : (s : SortBy) (x y : Datum) → by_field s x y ≡ sort_cell_cmp (sort_cell s (x.cell s.field)) (sort_cell s (y.cell s.field))
by_cell s x y = either s.descending
  where
    either : (b : Bool) → cond b (cell_cmp (y.cell s.field) (x.cell s.field)) (cell_cmp (x.cell s.field) (y.cell s.field))
        ≡ sort_cell_cmp (cond b (Falling (x.cell s.field)) (Rising (x.cell s.field)))
        (cond b (Falling (y.cell s.field)) (Rising (y.cell s.field)))
    either true = refl
    either false = refl

-- rows stand as the cells by which they are sorted
by_cells : (sort : List SortBy) (x y : Datum) → by_fields sort x y
    ≡ slice_cmp sort_cell_cmp (sort_cells sort x.cell) (sort_cells sort y.cell)
by_cells [] x y = refl
by_cells (s ∷ sort) x y = ap₂ ordering_then (by_cell s x y) (by_cells sort x y)

then_equal : (r : Ordering) → ordering_then r Equal ≡ r
then_equal Less = refl
then_equal Equal = refl
then_equal Greater = refl

then_then : (a b c : Ordering) → ordering_then a (ordering_then b c) ≡ ordering_then (ordering_then a b) c
then_then Less b c = refl
then_then Equal b c = refl
then_then Greater b c = refl

-- rows stand as the cells of their entries
pub by_entries : (sort : List SortBy) (x y : Datum) (p q : ℕ)
    → by_fields sort x y ≡ entry_cells_cmp (entry_of sort p x.cell) (entry_of sort q y.cell)
by_entries [] x y p q = refl
by_entries (s ∷ []) x y p q =
    let first = sort_cell_cmp (sort_cell s (x.cell s.field)) (sort_cell s (y.cell s.field)) in
    then_equal (by_field s x y) ∙ by_cell s x y ∙ sym (then_equal first) ∙ sym (then_equal (ordering_then first Equal))
by_entries (s ∷ t ∷ sort) x y p q =
    then_then (by_field s x y) (by_field t x y) (by_fields sort x y)
    ∙ ap₂ ordering_then (ap₂ ordering_then (by_cell s x y) (by_cell t x y)) (by_cells sort x y)

unequal : (r s : Ordering) → ordering_then r s ≡ Equal → s ≡ Less → ⊥
unequal Less s e f = absurd (cc)
unequal Equal s e f = absurd (cc)
unequal Greater s e f = absurd (cc)

each_key : (P : Key → Type 0) (rows : List Keyed) → All P (keys_of rows) → Each (λ (row : Datum). P row.key) (map datum_of rows)
each_key P [] h = tt
each_key P (row ∷ rows) h = (All-head P row.key (keys_of rows) h, each_key P rows (All-tail P row.key (keys_of rows) h))

-- no two rows tie
pub rows_apart : (sort : List SortBy) (rows : List Keyed) → AllPairs IsBefore (keys_of rows) → AreApart (row_order sort) (map datum_of rows)
rows_apart sort [] h = tt
rows_apart sort (row ∷ rows) h =
    let later : All (IsBefore row.key) (keys_of rows) = λ k d within. h 0 (suc k) d (omega arith) (omega arith) in (
      apart (map datum_of rows) (each_key (IsBefore row.key) rows later),
      rows_apart sort rows (λ i j d less within. h (suc i) (suc j) d (omega arith) (omega arith)),
    )
  where
    apart : (others : List Datum) → Each (λ (other : Datum). IsBefore row.key other.key) others
        → Each (λ y. row_order sort (datum_of row) y ≡ Equal → ⊥) others
    apart [] e = tt
    apart (other ∷ others) e = (
      (λ tie. unequal (by_fields sort (datum_of row) other) (by_key row.key other.key) tie (before_is_less row.key other.key e.0)),
      apart others e.1,
    )
