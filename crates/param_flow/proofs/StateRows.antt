-- The rows of all sources of a state when one source changes.
use Rattle.std.proofs.Common.{◌≡◌, ℕ, zero, suc, ◌+◌, ◌<◌, ◌≤◌, false, ◌||◌, nat_lt, Option, Some, None, List, [], ◌∷◌, ◌++◌}
use Rattle.std.proofs.Common.{length, map}
use Rattle.std.proofs.Common.{refl, sym, ap, subst, ◌∙◌, arith, append_assoc, length-append}
use Rattle.std.specs.Prelude.{◌≢◌}
use Rattle.std.specs.List.{All, AllPairs}
use Rattle.std.specs.Option.{option_map}
use Rattle.std.proofs.lemmas.Bool.{or_parts, ltb-false}
use Rattle.std.proofs.lemmas.List.{append-nil, map-append}
use Rattle.std.proofs.lemmas.List.Elements.{All-nil, All-cons, All-head, All-tail, All-append, All-push, All-weaker, All-get_or}
use Rattle.std.proofs.lemmas.List.Quantifiers.{all_pairs_push}
use Rattle.fixed_num.specs.Number.{million}
use Rattle.std.specs.Prelude.{pos, ◌*◌}
use Rattle.json_exact.specs.declared.json.Json.{Json}
use Rattle.cell_value.specs.declared.cell.Cell.{Cell}
use Rattle.cell_value.specs.declared.cell.Cell.TheVariants.{Number}
use Rattle.cell_value.specs.declared.state.Keyed.{Keyed}
use Rattle.cell_value.specs.Datum.{Datum, datum_of}
use Rattle.cell_value.specs.State.{Dataset, ids_of, most_rows, greatest_id, ReadsItsId, IsState}
use Rattle.data_rows.specs.JsonRows.{row_of_json}
use Rattle.param_flow.specs.declared.command.ChangeOf.{ChangeOf}
use Rattle.param_flow.specs.Change.{rows_after}
use Rattle.expr_eval.specs.Values.{Values}
use Rattle.cell_value.specs.declared.state.StoreOf.{StoreOf}
use Rattle.param_flow.specs.inner.Sources.{data_at, with_data, rows_in, new_data, state_in, rows_changed, staying_in_all, is_past}
use Rattle.param_flow.proofs.LeftRows.{IsLeftOf, what_is_left, how_many_left, all_left, to_ids, from_ids, pairs_first, pairs_rest}
use Rattle.param_flow.proofs.LeftRows.{pairs_cons, pairs_left, left_of_itself, left_of_both}

-- the rows before those of one source, and those after them
pub record IsSplit (sources : List Dataset) (index : ℕ) : Type 0 where
  pub before : List Datum
  pub later : List Datum
  pub is : (rows : List Datum) → rows_in (with_data sources index rows) ≡ before ++ (rows ++ later)

pub split : (sources : List Dataset) (index : ℕ) → index < length sources → IsSplit sources index
split [] index h = absurd (omega (arith, h))
split (source ∷ sources) zero h = record { before = []; later = rows_in sources; is = λ rows. refl }
split (source ∷ sources) (suc index) h =
    let more = split sources index (omega (arith, h)) in
    record {
      before = source.rows ++ more.before;
      later = more.later;
      is = λ rows. ap (λ rest. source.rows ++ rest) (more.is rows) ∙ sym (append_assoc source.rows more.before (rows ++ more.later));
    }

-- the rows that a source has
pub same_data : (sources : List Dataset) (index : ℕ) → with_data sources index (data_at sources index) ≡ sources
same_data [] index = refl
same_data (source ∷ sources) zero = refl
same_data (source ∷ sources) (suc index) = ap (λ rest. source ∷ rest) (same_data sources index)

-- what holds of the source at an index
pub at_index : (P : Dataset → Type 0) (sources : List Dataset) (index : ℕ) → index < length sources → All P sources
    → (source : Dataset) × P source × (source.rows ≡ data_at sources index)
at_index P [] index within h = absurd (omega (arith, within))
at_index P (source ∷ sources) zero within h = (source, All-head P source sources h, refl)
at_index P (source ∷ sources) (suc index) within h = at_index P sources index (omega (arith, within)) (All-tail P source sources h)

-- what holds of the rows of each source holds with other rows in one
pub with_of_all : (P : List Datum → Type 0) (sources : List Dataset) (index : ℕ) (rows : List Datum)
    → All (λ (source : Dataset). P source.rows) sources → P rows → All (λ (source : Dataset). P source.rows) (with_data sources index rows)
with_of_all P [] index rows h new = h
with_of_all P (source ∷ sources) zero rows h new =
    All-cons (λ (source : Dataset). P source.rows) (record { name = source.name; rows = rows }) sources new
    (All-tail (λ (source : Dataset). P source.rows) source sources h)
with_of_all P (source ∷ sources) (suc index) rows h new =
    All-cons (λ (source : Dataset). P source.rows) source (with_data sources index rows)
    (All-head (λ (source : Dataset). P source.rows) source sources h)
    (with_of_all P sources index rows (All-tail (λ (source : Dataset). P source.rows) source sources h) new)

-- the names stay
pub names_stay : (sources : List Dataset) (index : ℕ) (rows : List Datum)
    → map (λ (source : Dataset). source.name) (with_data sources index rows) ≡ map (λ (source : Dataset). source.name) sources
names_stay [] index rows = refl
names_stay (source ∷ sources) zero rows = refl
names_stay (source ∷ sources) (suc index) rows = ap (λ rest. source.name ∷ rest) (names_stay sources index rows)

-- the second of two lists
all_later : {X : Type 0} (P : X → Type 0) (xs ys : List X) → All P (xs ++ ys) → All P ys
all_later P [] ys h = h
all_later P (x ∷ xs) ys h = all_later P xs ys (All-tail P x (xs ++ ys) h)

all_former : {X : Type 0} (P : X → Type 0) (xs ys : List X) → All P (xs ++ ys) → All P xs
all_former P [] ys h = All-nil P
all_former P (x ∷ xs) ys h = All-cons P x xs (All-head P x (xs ++ ys) h) (all_former P xs ys (All-tail P x (xs ++ ys) h))

-- one more within a list
all_within : {X : Type 0} (P : X → Type 0) (xs ys : List X) (x : X) → All P (xs ++ ys) → P x → All P (xs ++ x ∷ ys)
all_within P xs ys x h new = All-append P xs (x ∷ ys) (all_former P xs ys h) (All-cons P x ys new (all_later P xs ys h))

pairs_within : {X : Type 0} (R : X → X → Type 0) (xs ys : List X) (x : X) → AllPairs R (xs ++ ys) → All (λ a. R a x) xs → All (R x) ys
    → AllPairs R (xs ++ x ∷ ys)
pairs_within R [] ys x h below above = pairs_cons R x ys above h
pairs_within R (a ∷ xs) ys x h below above =
    pairs_cons R a (xs ++ x ∷ ys)
    (all_within (R a) xs ys x (pairs_first R a (xs ++ ys) h) (All-head (λ a. R a x) a xs below))
    (pairs_within R xs ys x (pairs_rest R a (xs ++ ys) h) (All-tail (λ a. R a x) a xs below) above)

-- what holds of the rows of all sources
pub record AreAll (next_id : ℕ) (rows : List Datum) : Type 0 where
  pub ids_read : All ReadsItsId rows
  pub no_branch : All (λ (datum : Datum). datum.key.branch ≡ 0) rows
  pub distinct : AllPairs (λ a b. a ≢ b) (ids_of rows)
  pub below : All (λ id. id < next_id) (ids_of rows)

-- one row more, with the next id
one_more : (next_id : ℕ) (rows later : List Datum) (datum : Datum) → datum.key ≡ record { id = next_id; branch = 0 } → ReadsItsId datum
    → AreAll next_id (rows ++ later) → AreAll (suc next_id) (rows ++ datum ∷ later)
one_more next_id rows later datum key read h =
    let joined = map-append (λ (datum : Datum). datum.key.id) rows later in
    let added = map-append (λ (datum : Datum). datum.key.id) rows (datum ∷ later) in
    let id : datum.key.id ≡ next_id = cc in
    let branch : datum.key.branch ≡ 0 = cc in
    let below : All (λ id. id < next_id) (ids_of rows ++ ids_of later) = subst (All (λ id. id < next_id)) joined h.below in
    record {
      ids_read = all_within ReadsItsId rows later datum h.ids_read read;
      no_branch = all_within (λ (datum : Datum). datum.key.branch ≡ 0) rows later datum h.no_branch branch;
      distinct = subst (AllPairs (λ a b. a ≢ b)) (sym added)
          (pairs_within (λ a b. a ≢ b) (ids_of rows) (ids_of later) datum.key.id (subst (AllPairs (λ a b. a ≢ b)) joined h.distinct)
          (All-weaker (λ id. id < next_id) (λ a. a ≢ datum.key.id) (λ a lt same. omega (arith, lt, same, id)) (ids_of rows)
          (all_former (λ id. id < next_id) (ids_of rows) (ids_of later) below))
          (All-weaker (λ id. id < next_id) (λ a. datum.key.id ≢ a) (λ a lt same. omega (arith, lt, same, id)) (ids_of later)
          (all_later (λ id. id < next_id) (ids_of rows) (ids_of later) below)));
      below = subst (All (λ id. id < suc next_id)) (sym added)
          (all_within (λ id. id < suc next_id) (ids_of rows) (ids_of later) datum.key.id
          (All-weaker (λ id. id < next_id) (λ id. id < suc next_id) (λ id lt. omega arith) (ids_of rows ++ ids_of later) below)
          (omega (arith, id)));
    }

-- rows that are inserted
inserted : (next_id : ℕ) (trees : List Json) (rows later : List Datum) → AreAll next_id (rows ++ later)
    → AreAll (next_id + length trees) (rows ++ (new_data next_id trees ++ later))
inserted next_id [] rows later h = let same : next_id ≡ next_id + 0 = omega arith in subst (λ n. AreAll n (rows ++ later)) same h
inserted next_id (tree ∷ trees) rows later h =
    let keyed : Keyed = record { key = record { id = next_id; branch = 0 }; row = row_of_json tree } in
    let one = one_more next_id rows later (datum_of keyed) refl refl h in
    let front : AreAll (suc next_id) ((rows ++ datum_of keyed ∷ []) ++ later) =
    subst (AreAll (suc next_id)) (sym (append_assoc rows (datum_of keyed ∷ []) later)) one in
    let more = inserted (suc next_id) trees (rows ++ datum_of keyed ∷ []) later front in
    let count : suc next_id + length trees ≡ next_id + suc (length trees) = omega arith in
    subst (λ n. AreAll n (rows ++ (new_data next_id (tree ∷ trees) ++ later))) count
    (subst (AreAll (suc next_id + length trees)) (append_assoc rows (datum_of keyed ∷ []) (new_data (suc next_id) trees ++ later)) more)

-- the ids of a source go on rising
rising : (next_id : ℕ) (trees : List Json) (rows : List Datum) → AllPairs (λ a b. a < b) (ids_of rows)
    → All (λ id. id < next_id) (ids_of rows)
    → AllPairs (λ a b. a < b) (ids_of (rows ++ new_data next_id trees))
rising next_id [] rows rise below = subst (λ rows. AllPairs (λ a b. a < b) (ids_of rows)) (sym (append-nil rows)) rise
rising next_id (tree ∷ trees) rows rise below =
    let keyed : Keyed = record { key = record { id = next_id; branch = 0 }; row = row_of_json tree } in
    let added = map-append (λ (datum : Datum). datum.key.id) rows (datum_of keyed ∷ []) in
    let higher = subst (AllPairs (λ a b. a < b)) (sym added)
    (all_pairs_push (λ a b. a < b) (ids_of rows) next_id rise (λ k d in_it. All-get_or (λ id. id < next_id)
    (ids_of rows) k d in_it below)) in
    let within = subst (All (λ id. id < suc next_id)) (sym added)
    (All-push (λ id. id < suc next_id) (ids_of rows) next_id
    (All-weaker (λ id. id < next_id) (λ id. id < suc next_id) (λ id lt. omega arith) (ids_of rows) below) (omega arith)) in
    subst (λ rows. AllPairs (λ a b. a < b) (ids_of rows)) (append_assoc rows (datum_of keyed ∷ []) (new_data (suc next_id) trees))
    (rising (suc next_id) trees (rows ++ datum_of keyed ∷ []) higher within)

pub counted : (next_id : ℕ) (trees : List Json) → length (new_data next_id trees) ≡ length trees
counted next_id [] = refl
counted next_id (tree ∷ trees) = ap suc (counted (suc next_id) trees)

within_limits : (a b m n : ℕ) → (nat_lt a m || nat_lt b n) ≡ false → (m ≤ a) × (n ≤ b)
within_limits a b m n h =
    let parts = or_parts _ _ h in
    (ltb-false a m parts.0, ltb-false b n parts.1)

new_of : (found : Option (List Datum)) (more new : List Datum) → option_map (λ left. left ++ more) found ≡ Some new
    → (left : List Datum) × (found ≡ Some left) × (new ≡ left ++ more)
new_of None more new h = absurd (cc)
new_of (Some left) more new h = (left, refl, cc)

module _ (stores : List StoreOf) (params : List (List ℕ × Cell)) (values : Values) (next_id : ℕ) (sources : List Dataset) (index : ℕ) (change : ChangeOf)
    (within : index < length sources)
    (h : IsState (state_in stores params next_id sources)) where
  -- the rows of all sources are those of one source and the others
  pub parts_of_all : (let parts = split sources index within in rows_in sources ≡ parts.before ++ (data_at sources index ++ parts.later))
  parts_of_all =
      let parts = split sources index within in
      ap rows_in (sym (same_data sources index)) ∙ parts.is (data_at sources index)

  -- the ids in one source are below the next one
  pub ids_at : All (λ id. id < next_id) (ids_of (data_at sources index))
  ids_at =
      let parts = split sources index within in
      let old = data_at sources index in
      let all = subst (λ rows. All (λ id. id < next_id) (ids_of rows)) parts_of_all h.ids_below_next in
      let later = all_later (λ id. id < next_id) (ids_of parts.before) (ids_of (old ++ parts.later))
      (subst (All (λ id. id < next_id)) (map-append (λ (datum : Datum). datum.key.id) parts.before (old ++ parts.later)) all) in
      all_former (λ id. id < next_id) (ids_of old) (ids_of parts.later)
      (subst (All (λ id. id < next_id)) (map-append (λ (datum : Datum). datum.key.id) old parts.later) later)

  -- a state stays one
  pub still_state : (new : List Datum) → is_past values next_id sources index change ≡ false
      → rows_changed values next_id sources index change ≡ Some new
      → IsState (state_in stores params (next_id + length change.insert) (with_data sources index new))
  still_state new free changed =
      let old = data_at sources index in
      let parts = split sources index within in
      let all = parts_of_all in
      let found = new_of (rows_after values change old) (new_data next_id change.insert) new changed in
      let left = found.0 in
      let is_left = what_is_left values change old left found.1 in
      let count = how_many_left values change old left found.1 in
      let of_all : IsLeftOf (rows_in sources) (parts.before ++ (left ++ parts.later)) =
      subst (λ rows. IsLeftOf rows (parts.before ++ (left ++ parts.later))) (sym all)
      (left_of_both parts.before parts.before (old ++ parts.later) (left ++ parts.later) (left_of_itself parts.before)
      (left_of_both old left parts.later parts.later is_left (left_of_itself parts.later))) in
      let rest = parts.before ++ (left ++ parts.later) in
      let below_rest = to_ids (λ id. id < next_id) rest
      (all_left (λ key cell. key.id < next_id) (rows_in sources) rest of_all (from_ids (λ id. id < next_id)
      (rows_in sources) h.ids_below_next)) in
      let was : AreAll next_id rest = record {
        ids_read = all_left (λ key cell. cell ≡ Number (pos (key.id * million))) (rows_in sources) rest of_all h.ids_read;
        no_branch = all_left (λ key cell. key.branch ≡ 0) (rows_in sources) rest of_all h.no_branch;
        distinct = pairs_left (λ a b. a ≢ b) (rows_in sources) rest of_all h.ids_distinct;
        below = below_rest;
      } in
      let more = new_data next_id change.insert in
      let joined : AreAll (next_id + length change.insert) ((parts.before ++ left) ++ (more ++ parts.later)) =
      inserted next_id change.insert (parts.before ++ left) parts.later
      (subst (AreAll next_id) (sym (append_assoc parts.before left parts.later)) was) in
      let as_rows : (parts.before ++ left) ++ (more ++ parts.later) ≡ rows_in (with_data sources index new) =
      append_assoc parts.before left (more ++ parts.later)
      ∙ ap (λ rows. parts.before ++ rows) (sym (append_assoc left more parts.later) ∙ ap (λ new. new ++ parts.later) (sym found.2))
      ∙ sym (parts.is new) in
      let now = subst (AreAll (next_id + length change.insert)) as_rows joined in
      let own = at_index (λ (source : Dataset). AllPairs (λ a b. a < b) (ids_of source.rows)) sources index within h.ids_rise in
      let own_rise = subst (λ rows. AllPairs (λ a b. a < b) (ids_of rows)) own.2 own.1 in
      let left_rise = pairs_left (λ a b. a < b) old left is_left own_rise in
      let ids_later = subst (All (λ id. id < next_id)) (map-append (λ (datum : Datum). datum.key.id) parts.before
      (left ++ parts.later)) below_rest in
      let ids_left_later = subst (All (λ id. id < next_id)) (map-append (λ (datum : Datum). datum.key.id) left parts.later)
      (all_later (λ id. id < next_id) (ids_of parts.before) (ids_of (left ++ parts.later)) ids_later) in
      let left_below = all_former (λ id. id < next_id) (ids_of left) (ids_of parts.later) ids_left_later in
      let new_rise = subst (λ rows. AllPairs (λ a b. a < b) (ids_of rows)) (sym found.2)
      (rising next_id change.insert left left_rise left_below) in
      let room = within_limits most_rows (greatest_id + 1) (staying_in_all values next_id sources index change + length change.insert)
      (next_id + length change.insert) free in
      let long_new = ap length found.2 ∙ length-append left more in
      let long_more = counted next_id change.insert in
      let long_all = ap length all ∙ length-append parts.before (old ++ parts.later) in
      let long_old = length-append old parts.later in
      let long_now = ap length (parts.is new) ∙ length-append parts.before (new ++ parts.later) in
      let long_tail = length-append new parts.later in
      record {
        ids_read = now.ids_read;
        no_branch = now.no_branch;
        ids_rise = with_of_all (λ rows. AllPairs (λ a b. a < b) (ids_of rows)) sources index new h.ids_rise new_rise;
        ids_distinct = now.distinct;
        ids_below_next = now.below;
        next_id_from = omega (arith, h.next_id_from);
        next_id_to = room.1;
        few_rows = omega (arith, room.0, count, long_new, long_more, long_all, long_old, long_now, long_tail);
      }
