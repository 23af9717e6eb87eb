-- Why rows behind references are those of a mark in order.
use Rattle.std.proofs.Common.{◌≡◌, ℕ, ◌+◌, ◌<◌, ◌≤◌, List, [], ◌∷◌, ◌++◌, map, length, take, get_or, arith}
use Rattle.std.proofs.Common.{Result, OnOk, sym, ap, ◌∙◌, subst, add-one, take_all}
use Rattle.std.specs.Borrow.{Bor}
use Rattle.std.proofs.Math.Seq.{take-suc}
use Rattle.std.proofs.lemmas.List.{get_or-map, get_or_default, length-map, map-append}
use Rattle.std.proofs.lemmas.List.Elements.{All-nil, All-cons, All-append}
use Rattle.std.proofs.lemmas.Result.{on_ok_weaker}
use Rattle.cell_value.specs.declared.state.Key.{Key}
use Rattle.cell_value.specs.declared.state.Keyed.{Keyed}
use Rattle.cell_value.specs.Datum.{Datum, datum_of}
use Rattle.cell_value.specs.State.{greatest_id}
use Rattle.plain_rows.specs.Rows.{AreRows}
use Rattle.plain_orders.specs.Listed.{AreListed}
use Rattle.plain_orders.specs.Partitions.{datum_at}
use Rattle.plain_orders.proofs.ListedLemmas.{rows_are_listed}
use Rattle.mark_encode.specs.Orders.{data_of, HaveIds, ReadAs}

-- the row at a place
pub row_there : (rows : List (Bor Keyed)) (p : ℕ) (row : Bor Keyed) → p < length rows → row ≡ get_or rows p row
    → datum_of row.now ≡ datum_at (data_of rows) p
row_there rows p row below is =
    let read : Bor Keyed → Datum = λ r. datum_of r.now in
    ap read is ∙ sym (get_or-map read rows p row _ below)

-- what is read of no rows
pub none_read : (found : List (Bor Keyed)) → found ≡ [] → ReadAs found []
none_read found none = record {
  reads = ap data_of none;
  ids = subst HaveIds (sym none) (All-nil (λ (row : Bor Keyed). row.now.key.id ≤ greatest_id));
}

module _ {X : Type 0} (f : X → Datum) (xs : List X) (i : ℕ) where
  -- one row more
  pub one_read : (x : X) (old new : List (Bor Keyed)) → i < length xs → x ≡ get_or xs i x → ReadAs old (map f (take i xs))
      → data_of new ≡ data_of old ++ f x ∷ [] → (HaveIds old → HaveIds new) → ReadAs new (map f (take (i + 1) xs))
  one_read x old new within at before adds keeps =
      let more : take (i + 1) xs ≡ take i xs ++ x ∷ [] =
      ap (λ k. take k xs) (add-one i) ∙ take-suc xs i x within ∙ ap (λ z. take i xs ++ z ∷ []) (sym at) in
      record {
        reads = adds ∙ ap (λ l. l ++ f x ∷ []) before.reads ∙ sym (ap (map f) more ∙ map-append f (take i xs) (x ∷ []));
        ids = keeps before.ids;
      }

  -- all rows
  pub all_read : (found : List (Bor Keyed)) → length xs ≤ i → ReadAs found (map f (take i xs)) → ReadAs found (map f xs)
  all_read found past before = record { reads = before.reads ∙ ap (map f) (take_all i xs past); ids = before.ids }

-- one row more, of the place there
pub place_read : (f : ℕ → Datum) (places : List ℕ) (i : ℕ) (datum : Datum) (old new : List (Bor Keyed)) → i < length places
    → ReadAs old (map f (take i places)) → datum ≡ f (get_or places i 0) → data_of new ≡ data_of old ++ datum ∷ []
    → (HaveIds old → HaveIds new) → ReadAs new (map f (take (i + 1) places))
place_read f places i datum old new within before is adds keeps =
    one_read f places i (get_or places i 0) old new within (get_or_default places i 0 _ within) before
    (adds ∙ ap (λ d. data_of old ++ d ∷ []) is) keeps

-- a row that is added, where the call answered
pub reads_added : {T E : Type 0} (r : Result T E) (old new : List (Bor Keyed)) (row : Bor Keyed) → OnOk r (new ≡ old ++ row ∷ [])
    → OnOk r (data_of new ≡ data_of old ++ datum_of row.now ∷ [])
reads_added r old new row =
    on_ok_weaker r (λ (is : new ≡ old ++ row ∷ []). ap data_of is ∙ map-append (λ (x : Bor Keyed). datum_of x.now) old (row ∷ []))

id_more : (old new : List (Bor Keyed)) (row : Bor Keyed) → row.now.key.id ≤ greatest_id → new ≡ old ++ row ∷ [] → HaveIds old → HaveIds new
id_more old new row small is have =
    let P : Bor Keyed → Type 0 = λ r. r.now.key.id ≤ greatest_id in
    subst HaveIds (sym is) (All-append P old (row ∷ []) have (All-cons P row [] small (All-nil P)))

pub ids_added : {T E : Type 0} (r : Result T E) (old new : List (Bor Keyed)) (row : Bor Keyed) → row.now.key.id ≤ greatest_id
    → OnOk r (new ≡ old ++ row ∷ []) → OnOk r (HaveIds old → HaveIds new)
ids_added r old new row small = on_ok_weaker r (id_more old new row small)

-- the id of each row
pub id_there : (rows : List (Bor Keyed)) (i : ℕ) (row : Bor Keyed) → HaveIds rows → i < length rows → row ≡ get_or rows i row
    → row.now.key.id ≤ greatest_id
id_there rows i row have within is = subst (λ (r : Bor Keyed). r.now.key.id ≤ greatest_id) (sym is) (have i row within)

-- listed rows have ids
key_at : (rows : List (Bor Keyed)) (i : ℕ) (row : Bor Keyed) (k : Key) → i < length rows
    → get_or (map (λ (d : Datum). d.key) (data_of rows)) i k ≡ (get_or rows i row).now.key
key_at rows i row k within =
    let read : Bor Keyed → Datum = λ r. datum_of r.now in
    get_or-map (λ (d : Datum). d.key) (data_of rows) i (read row) k (omega (arith, within, length-map rows read))
    ∙ ap (λ (d : Datum). d.key) (get_or-map read rows i row (read row) within)

pub ids_listed : (rows : List (Bor Keyed)) → AreListed (data_of rows) → HaveIds rows
ids_listed rows are i row within =
    let read : Bor Keyed → Datum = λ r. datum_of r.now in
    subst (λ (k : Key). k.id ≤ greatest_id) (key_at rows i row row.now.key within)
    (are.small_ids i row.now.key (omega (arith, within, length-map rows read, length-map (data_of rows) (λ (d : Datum). d.key))))

-- references that read as rows are listed
pub listed_as : (found references : List (Bor Keyed)) (rows slice : List Keyed) → found ≡ references → data_of references ≡ map datum_of slice
    → slice ≡ rows
    → AreRows rows → AreListed (data_of found)
listed_as found references rows slice same reads is are =
    subst AreListed (sym (ap data_of same ∙ reads ∙ ap (map datum_of) is)) (rows_are_listed rows are)
