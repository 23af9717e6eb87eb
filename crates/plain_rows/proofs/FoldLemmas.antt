-- The rows that a fold makes: their keys, and what is read of them.
use Rattle.std.proofs.Common.{◌≡◌, ℕ, zero, suc, ◌+◌, ◌*◌, ◌<◌, ◌≤◌, ◌^◌, inl, inr, List, [], ◌∷◌, ◌++◌, map, length, get_or, All, AllPairs}
use Rattle.std.proofs.Common.{Result, Ok, Err, IfOk, refl, sym, ap, ap₂, ◌∙◌, subst, arith}
use Rattle.std.specs.List.{enumerate_from}
use Rattle.std.proofs.Math.ListN.{get_or-append}
use Rattle.std.proofs.Math.Nat.{mul-le-mul_right}
use Rattle.std.proofs.lemmas.List.{map-append, length-append, length-map}
use Rattle.std.proofs.lemmas.List.Elements.{All-append, All-cons}
use Rattle.std.proofs.lemmas.List.Kept.{AllPairs-cons}
use Rattle.text_kit.specs.declared.memory.OutOfMemory.{OutOfMemory}
use Rattle.cell_value.specs.declared.state.Key.{Key}
use Rattle.cell_value.specs.declared.state.Keyed.{Keyed}
use Rattle.cell_value.specs.declared.cell.Cell.TheVariants.{Text}
use Rattle.cell_value.specs.State.{greatest_id}
use Rattle.cell_value.specs.Datum.{Datum, datum_of, cell_at, datum_with}
use Rattle.plain_rows.specs.declared.transforms.FoldOf.{FoldOf}
use Rattle.plain_rows.specs.Rows.{AreRows, IsBefore, keys_of, most_listed}
use Rattle.plain_rows.specs.Calculations.{with_cell}
use Rattle.plain_rows.specs.Folds.{folded_key, folded_row, folded_of, folded, data_folded_row, data_folded}
use Rattle.plain_rows.proofs.Readings.{reads_with}

front : {X : Type 0} (P : X → Type 0) (xs ys : List X) → All P (xs ++ ys) → All P xs
front P xs ys h k d lt = subst P (get_or-append xs ys d k lt) (h k d (omega (arith, length-append xs ys)))

back : {X : Type 0} (P : X → Type 0) (xs ys : List X) → All P (xs ++ ys) → All P ys
back P [] ys h = h
back P (x ∷ xs) ys h = back P xs ys (λ k d lt. h (suc k) d (omega arith))

none : {X : Type 0} (P : X → Type 0) → All P []
none P k d lt = absurd (omega arith)

no_pairs : {X : Type 0} (R : X → X → Type 0) → AllPairs R []
no_pairs R i j d less lt = absurd (omega arith)

module _ (f : FoldOf) where
  -- the rows that are made of a row for fields that stand from a place on
  abbrev pub made_from : Keyed → ℕ → List (List ℕ) → List Keyed
  made_from row from fields = map (λ field. folded_row f row field.0 field.1) (enumerate_from from fields)

  -- the number of the branch at a place
  branch_from : (row : Keyed) (P : Key → Type 0) (from : ℕ) (fields : List (List ℕ)) (at : ℕ) → at < length fields → All P (keys_of (made_from row from fields))
      → P (folded_key (length f.fields) row.key (from + at))
  branch_from row P from [] at lt h = absurd (omega arith)
  branch_from row P from (field ∷ fields) zero lt h =
      let here : from ≡ from + 0 = omega arith in
      subst (λ n. P (folded_key (length f.fields) row.key n)) here (h 0 row.key (omega arith))
  branch_from row P from (field ∷ fields) (suc at) lt h =
      let there : from + 1 + at ≡ from + suc at = omega arith in
      subst (λ n. P (folded_key (length f.fields) row.key n)) there
      (branch_from row P (from + 1) fields at (omega arith) (λ k d within. h (suc k) d (omega arith)))

  pub branch_at : (row : Keyed) (at : ℕ) → at < length f.fields → All (λ (key : Key). key.branch < 2 ^ 32) (keys_of (folded_of f row))
      → row.key.branch * length f.fields + at < 2 ^ 32
  branch_at row at lt h = let small = branch_from row (λ (key : Key). key.branch < 2 ^ 32) 0 f.fields at lt h in omega (arith, small)

  -- what holds of the keys of all rows holds of those that are made of one
  pub part : (P : Key → Type 0) (rows : List Keyed) (i : ℕ) (row : Keyed) → i < length rows → row ≡ get_or rows i row → All P (keys_of (folded f rows))
      → All P (keys_of (folded_of f row))
  part P [] i row lt at h = absurd (omega arith)
  part P (x ∷ rows) zero row lt at h =
      subst (λ x. All P (keys_of (folded_of f x))) (sym at)
      (front P (keys_of (folded_of f x)) (keys_of (folded f rows)) (subst (All P) (map-append (λ (k : Keyed). k.key) (folded_of f x) (folded f rows)) h))
  part P (x ∷ rows) (suc i) row lt at h =
      part P rows i row (omega arith) at
      (back P (keys_of (folded_of f x)) (keys_of (folded f rows)) (subst (All P) (map-append (λ (k : Keyed). k.key) (folded_of f x) (folded f rows)) h))

  -- the keys that are made of one key, with branches from one number up to another
  record Within (key : Key) (from to : ℕ) (made : Key) : Type 0 where
    pub same_id : made.id ≡ key.id
    pub from_there : from ≤ made.branch
    pub to_there : made.branch < to

  widened : (key : Key) (from lower to upper : ℕ) → lower ≤ from → to ≤ upper → (made : Key) → Within key from to made → Within key lower upper made
  widened key from lower to upper a b made w = record { same_id = w.same_id; from_there = omega (arith, w.from_there); to_there = omega (arith, w.to_there) }

  all_wider : {X : Type 0} (P Q : X → Type 0) (xs : List X) → ((x : X) → P x → Q x) → All P xs → All Q xs
  all_wider P Q xs g h k d lt = g (get_or xs k d) (h k d lt)

  ranges : (row : Keyed) (from : ℕ) (fields : List (List ℕ))
      → All (Within row.key (row.key.branch * length f.fields + from) (row.key.branch * length f.fields + from + length fields))
      (keys_of (made_from row from fields))
  ranges row from [] = none _
  ranges row from (field ∷ fields) =
      let n = row.key.branch * length f.fields in
      let w = Within row.key (n + from) (n + from + suc (length fields)) in
      All-cons w (folded_key (length f.fields) row.key from) (keys_of (made_from row (from + 1) fields))
      (record { same_id = refl; from_there = omega arith; to_there = omega arith })
      (all_wider _ w (keys_of (made_from row (from + 1) fields))
      (widened row.key (n + (from + 1)) (n + from) (n + (from + 1) + length fields) (n + from + suc (length fields)) (omega arith) (omega arith))
      (ranges row (from + 1) fields))

  -- the keys that are made of one row rise
  rise_within : (row : Keyed) (from : ℕ) (fields : List (List ℕ)) → AllPairs IsBefore (keys_of (made_from row from fields))
  rise_within row from [] = no_pairs IsBefore
  rise_within row from (field ∷ fields) =
      let n = row.key.branch * length f.fields in
      AllPairs-cons IsBefore (folded_key (length f.fields) row.key from) (keys_of (made_from row (from + 1) fields))
      (all_wider (Within row.key (n + (from + 1)) (n + (from + 1) + length fields))
      (IsBefore (folded_key (length f.fields) row.key from)) (keys_of (made_from row (from + 1) fields))
      (λ made w. let low = w.from_there in inr (sym w.same_id, omega arith)) (ranges row (from + 1) fields))
      (rise_within row (from + 1) fields)

  abbrev Made_of : Key → Key → Type 0
  Made_of key = Within key (key.branch * length f.fields) (key.branch * length f.fields + length f.fields)

  made_of : (row : Keyed) → All (Made_of row.key) (keys_of (folded_of f row))
  made_of row =
      let n = row.key.branch * length f.fields in
      all_wider _ (Made_of row.key) (keys_of (folded_of f row))
      (widened row.key (n + 0) n (n + 0 + length f.fields) (n + length f.fields) (omega arith) (omega arith)) (ranges row 0 f.fields)

  -- keys that are made of one key stand before those that are made of a later one
  made_before : (a b c d : Key) → IsBefore a b → Made_of a c → Made_of b d → IsBefore c d
  made_before a b c d (inl ids) v w =
      let p = v.same_id in let q = w.same_id in inl (omega arith)
  made_before a b c d (inr same) v w =
      let step : (suc a.branch) * length f.fields ≤ b.branch * length f.fields = mul-le-mul_right (length f.fields) same.1 in
      let p = v.to_there in
      let q = w.from_there in
      let e : suc a.branch * length f.fields ≡ a.branch * length f.fields + length f.fields = grind arith in
      inr (v.same_id ∙ same.0 ∙ sym w.same_id, omega arith)

  before_all : (a c : Key) → Made_of a c → (rows : List Keyed) → All (IsBefore a) (keys_of rows) → All (IsBefore c) (keys_of (folded f rows))
  before_all a c v [] h = none (IsBefore c)
  before_all a c v (row ∷ rows) h =
      subst (All (IsBefore c)) (sym (map-append (λ (k : Keyed). k.key) (folded_of f row) (folded f rows)))
      (All-append (IsBefore c) (keys_of (folded_of f row)) (keys_of (folded f rows))
      (all_wider (Made_of row.key) (IsBefore c) (keys_of (folded_of f row)) (λ d w. made_before a row.key c d (h 0 row.key (omega arith)) v w) (made_of row))
      (before_all a c v rows (λ k d lt. h (suc k) d (omega arith))))

  pairs_append : (xs ys : List Key) → AllPairs IsBefore xs → AllPairs IsBefore ys → All (λ x. All (IsBefore x) ys) xs → AllPairs IsBefore (xs ++ ys)
  pairs_append [] ys a b cross = b
  pairs_append (x ∷ xs) ys a b cross =
      AllPairs-cons IsBefore x (xs ++ ys)
      (All-append (IsBefore x) xs ys (λ k d lt. a 0 (suc k) d (omega arith) (omega arith)) (cross 0 x (omega arith)))
      (pairs_append xs ys (λ i j d less lt. a (suc i) (suc j) d (omega arith) (omega arith)) b (λ k d lt. cross (suc k) d (omega arith)))

  rise_all : (rows : List Keyed) → AllPairs IsBefore (keys_of rows) → AllPairs IsBefore (keys_of (folded f rows))
  rise_all [] h = no_pairs IsBefore
  rise_all (row ∷ rows) h =
      let later : All (IsBefore row.key) (keys_of rows) = λ k d lt. h 0 (suc k) d (omega arith) (omega arith) in
      subst (AllPairs IsBefore) (sym (map-append (λ (k : Keyed). k.key) (folded_of f row) (folded f rows)))
      (pairs_append (keys_of (folded_of f row)) (keys_of (folded f rows)) (rise_within row 0 f.fields)
      (rise_all rows (λ i j d less lt. h (suc i) (suc j) d (omega arith) (omega arith)))
      (all_wider (Made_of row.key) (λ c. All (IsBefore c) (keys_of (folded f rows)))
      (keys_of (folded_of f row)) (λ c v. before_all row.key c v rows later) (made_of row)))

  small_all : (rows : List Keyed) → All (λ (key : Key). key.id ≤ greatest_id) (keys_of rows)
      → All (λ (key : Key). key.id ≤ greatest_id) (keys_of (folded f rows))
  small_all [] h = none _
  small_all (row ∷ rows) h =
      let small : Key → Type 0 = λ key. key.id ≤ greatest_id in
      subst (All small) (sym (map-append (λ (k : Keyed). k.key) (folded_of f row) (folded f rows)))
      (All-append small (keys_of (folded_of f row)) (keys_of (folded f rows))
      (all_wider (Made_of row.key) small (keys_of (folded_of f row))
      (λ made w. subst (λ id. id ≤ greatest_id) (sym w.same_id) (h 0 row.key (omega arith))) (made_of row))
      (small_all rows (λ k d lt. h (suc k) d (omega arith))))

  all_rows : (rows : List Keyed) → AreRows rows → length (folded f rows) ≤ most_listed → AreRows (folded f rows)
  all_rows rows are few = record {
    rise = rise_all rows are.rise;
    small_ids = small_all rows are.small_ids;
    few = omega (arith, few, length-map (folded f rows) (λ (k : Keyed). k.key));
  }

  -- the rows that a fold makes are rows
  pub folded_are_rows : (rows : List Keyed) → AreRows rows → length (folded f rows) ≤ most_listed → (result : Result (List Keyed) OutOfMemory)
      → IfOk result (λ out. out ≡ folded f rows) → IfOk result AreRows
  folded_are_rows rows are few (Ok out) e = subst AreRows (sym e) (all_rows rows are few)
  folded_are_rows rows are few (Err e) h = tt

  reads_one : (keyed : Keyed) (at : ℕ) (field : List ℕ) → datum_of (folded_row f keyed at field) ≡ data_folded_row f (datum_of keyed) at field
  reads_one keyed at field =
      let named = with_cell f.out_key (Text field) keyed in
      let value = cell_at keyed field in
      let both : datum_with f.out_value value (datum_with f.out_key (Text field) (datum_of keyed)) ≡ datum_of (with_cell f.out_value value named) =
      ap (datum_with f.out_value value) (reads_with f.out_key (Text field) keyed) ∙ reads_with f.out_value value named in
      ap (λ (datum : Datum). record datum { key = folded_key (length f.fields) keyed.key at }) (sym both)

  reads_from : (keyed : Keyed) (from : ℕ) (fields : List (List ℕ))
      → map datum_of (made_from keyed from fields) ≡ map (λ field. data_folded_row f (datum_of keyed) field.0 field.1) (enumerate_from from fields)
  reads_from keyed from [] = refl
  reads_from keyed from (field ∷ fields) = ap₂ (λ (d : Datum) ds. d ∷ ds) (reads_one keyed from field) (reads_from keyed (from + 1) fields)

  -- what is read of the rows that a fold makes
  pub fold_reads : (rows : List Keyed) → map datum_of (folded f rows) ≡ data_folded f (map datum_of rows)
  fold_reads [] = refl
  fold_reads (row ∷ rows) =
      map-append datum_of (folded_of f row) (folded f rows) ∙ ap₂ (λ (xs ys : List Datum). xs ++ ys) (reads_from row 0 f.fields) (fold_reads rows)

  -- branches below a number become branches below so many times as many as there are fields
  pub branches_below : (most : ℕ) (rows : List Keyed) → All (λ (key : Key). key.branch < most) (keys_of rows)
      → All (λ (key : Key). key.branch < most * length f.fields) (keys_of (folded f rows))
  branches_below most [] h = none _
  branches_below most (row ∷ rows) h =
      let below : Key → Type 0 = λ key. key.branch < most * length f.fields in
      let step : suc row.key.branch * length f.fields ≤ most * length f.fields = mul-le-mul_right (length f.fields) (h 0 row.key (omega arith)) in
      let e : suc row.key.branch * length f.fields ≡ row.key.branch * length f.fields + length f.fields = grind arith in
      subst (All below) (sym (map-append (λ (k : Keyed). k.key) (folded_of f row) (folded f rows)))
      (All-append below (keys_of (folded_of f row)) (keys_of (folded f rows))
      (all_wider (Made_of row.key) below (keys_of (folded_of f row)) (λ made w. let p = w.to_there in omega arith) (made_of row))
      (branches_below most rows (λ k d lt. h (suc k) d (omega arith))))

  length_from : (row : Keyed) (from : ℕ) (fields : List (List ℕ)) → length (made_from row from fields) ≡ length fields
  length_from row from [] = refl
  length_from row from (field ∷ fields) = ap suc (length_from row (from + 1) fields)

  -- a fold makes a row for each row and field
  pub length_folded : (rows : List Keyed) → length (folded f rows) ≡ length rows * length f.fields
  length_folded [] = sym (omega arith)
  length_folded (row ∷ rows) =
      let first = length_from row 0 f.fields in
      let others = length_folded rows in
      let e : suc (length rows) * length f.fields ≡ length rows * length f.fields + length f.fields = grind arith in
      omega (arith, length-append (folded_of f row) (folded f rows))
