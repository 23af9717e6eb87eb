-- Rows behind references in an order.
use Rattle.std.proofs.Common.{◌≡◌, ℕ, ◌<◌, ◌≤◌, suc, Bool, List, [], ◌∷◌, map, filter, length, get_or, All, AllPairs, Result, IfOk}
use Rattle.std.proofs.Common.{arith, refl, sym, ap, ◌∙◌, subst}
use Rattle.std.specs.Borrow.{Bor}
use Rattle.std.proofs.lemmas.Bool.{cond_both}
use Rattle.std.proofs.lemmas.List.{get_or-map, length-map}
use Rattle.std.proofs.lemmas.List.Kept.{AllPairs-cons}
use Rattle.std.proofs.lemmas.List.Elements.{All-filter, All-map}
use Rattle.std.proofs.lemmas.List.Sums.{length-filter, count_by-le-length}
use Rattle.std.proofs.lemmas.Result.{IfOk-weaker}
use Rattle.text_kit.specs.declared.memory.OutOfMemory.{OutOfMemory}
use Rattle.cell_value.specs.declared.state.Key.{Key}
use Rattle.cell_value.specs.declared.state.Keyed.{Keyed}
use Rattle.cell_value.specs.Datum.{Datum, datum_of}
use Rattle.cell_value.specs.State.{greatest_id}
use Rattle.plain_rows.specs.declared.transforms.SortBy.{SortBy}
use Rattle.plain_rows.specs.Rows.{AreKeys, AreRows, IsBefore, keys_of}
use Rattle.plain_rows.proofs.Keys.{small_id, all_back}
use Rattle.plain_orders.specs.declared.entries.Entry.{Entry}
use Rattle.plain_orders.specs.Orders.{row_order, in_order}
use Rattle.plain_orders.specs.Listed.{data_of, AreListed}
use Rattle.plain_orders.specs.Partitions.{data_at}
use Rattle.plain_orders.specs.inner.Entries.{entry_cmp, entries_from}
use Rattle.plain_orders.proofs.PartitionLemmas.{each_all, order_shows, order_within}

-- the rows behind references
abbrev pub behind : List (Bor Keyed) → List Keyed
behind rows = map (λ (row : Bor Keyed). row.now) rows

abbrev key_of : Datum → Key
key_of row = row.key

same_data : (rows : List (Bor Keyed)) → map datum_of (behind rows) ≡ data_of rows
same_data [] = refl
same_data (row ∷ rows) = ap (λ l. datum_of row.now ∷ l) (same_data rows)

same_keys : (rows : List (Bor Keyed)) → map key_of (data_of rows) ≡ keys_of (behind rows)
same_keys [] = refl
same_keys (row ∷ rows) = ap (λ l. row.now.key ∷ l) (same_keys rows)

-- rows behind references that are listed are rows
pub are_rows : (rows : List (Bor Keyed)) → AreListed (data_of rows) → AreRows (behind rows)
are_rows rows are = subst AreKeys (same_keys rows) are

-- the id of each row
pub id_listed : (rows : List (Bor Keyed)) (i : ℕ) (row : Bor Keyed) → AreListed (data_of rows) → i < length rows → row ≡ get_or rows i row
    → row.now.key.id ≤ greatest_id
id_listed rows i row are within is =
    let now : Bor Keyed → Keyed = λ r. r.now in
    small_id (behind rows) i row.now (are_rows rows are) (omega (arith, within, length-map rows now))
    (ap now is ∙ sym (get_or-map now rows i row row.now within))

-- rows are listed
keys_seen : (rows : List Keyed) → keys_of rows ≡ map key_of (map datum_of rows)
keys_seen [] = refl
keys_seen (row ∷ rows) = ap (λ l. row.key ∷ l) (keys_seen rows)

pub rows_are_listed : (rows : List Keyed) → AreRows rows → AreListed (map datum_of rows)
rows_are_listed rows are = subst AreKeys (keys_seen rows) are

-- a filter leaves pairs as they were
pairs_filter : (t : Datum → Bool) (rows : List Datum) → AllPairs IsBefore (map key_of rows) → AllPairs IsBefore (map key_of (filter t rows))
pairs_filter t [] h = h
pairs_filter t (row ∷ rows) h =
    let rest = pairs_filter t rows (λ i j d less within. h (suc i) (suc j) d (omega arith) (omega arith)) in
    let later : All (IsBefore row.key) (map key_of rows) = λ k d within. h 0 (suc k) d (omega arith) (omega arith) in
    let head : All (IsBefore row.key) (map key_of (filter t rows)) =
    All-map (IsBefore row.key) key_of (filter t rows)
    (All-filter t (λ (other : Datum). IsBefore row.key other.key) rows (all_back key_of (IsBefore row.key) rows later)) in
    cond_both (t row) (row ∷ filter t rows) (filter t rows) (λ l. AllPairs IsBefore (map key_of l))
    (λ _. AllPairs-cons IsBefore row.key (map key_of (filter t rows)) head rest) (λ _. rest)

-- those that pass a test are listed
pub part_is_listed : (t : Datum → Bool) (rows : List Datum) → AreListed rows → AreListed (filter t rows)
part_is_listed t rows are = record {
  rise = pairs_filter t rows are.rise;
  small_ids = All-map (λ (key : Key). key.id ≤ greatest_id) key_of (filter t rows)
      (All-filter t (λ (row : Datum). row.key.id ≤ greatest_id) rows
      (all_back key_of (λ (key : Key). key.id ≤ greatest_id) rows are.small_ids));
  few = omega (arith, are.few, length-map rows key_of, length-map (filter t rows) key_of, length-filter t rows, count_by-le-length t rows);
}

module _ (sort : List SortBy) (rows : List (Bor Keyed)) (are : AreListed (data_of rows)) where
  abbrev order : List ℕ
  order = map (λ (entry : Entry). entry.place) (in_order entry_cmp (entries_from sort 0 (behind rows)))

  -- the rows at the places in order are the rows in order
  shows : data_at (data_of rows) order ≡ in_order (row_order sort) (data_of rows)
  shows =
      subst (λ ds. data_at ds order ≡ in_order (row_order sort) ds) (same_data rows)
      (order_shows (behind rows) (are_rows rows are) [] sort)

  within : All (λ place. place < length rows) order
  within =
      subst (λ n. All (λ place. place < n) order) (length-map rows (λ (row : Bor Keyed). row.now))
      (each_all (λ place. place < length (behind rows)) order (order_within (behind rows) (are_rows rows are) [] sort))

  pub value_told : (result : Result (List ℕ) OutOfMemory) → IfOk result (λ places. places ≡ order)
      → IfOk result (λ places. data_at (data_of rows) places ≡ in_order (row_order sort) (data_of rows))
  value_told result told =
      IfOk-weaker result (λ places. places ≡ order) (λ places. data_at (data_of rows) places ≡ in_order (row_order sort) (data_of rows))
      (λ places is. ap (data_at (data_of rows)) is ∙ shows) told

  pub within_told : (result : Result (List ℕ) OutOfMemory) → IfOk result (λ places. places ≡ order)
      → IfOk result (All (λ place. place < length rows))
  within_told result told =
      IfOk-weaker result (λ places. places ≡ order) (All (λ place. place < length rows))
      (λ places is. subst (All (λ place. place < length rows)) (sym is) within) told
