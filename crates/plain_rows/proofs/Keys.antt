-- Keys of the rows that are answered.
use Rattle.std.proofs.Common.{◌≡◌, ℕ, suc, ◌<◌, ◌≤◌, Bool, false, List, [], ◌∷◌, map, filter, length, get_or, All, AllPairs, Option, Some}
use Rattle.std.proofs.Common.{None, Result, Ok, Err, IfOk, unwrap_or, option_map, refl, sym, ap, ap₂, ◌∙◌, subst, arith}
use Rattle.std.proofs.lemmas.Bool.{cond_both}
use Rattle.std.proofs.lemmas.List.{get_or-map, length-map}
use Rattle.std.proofs.lemmas.List.Kept.{AllPairs-cons}
use Rattle.std.proofs.lemmas.List.Elements.{All-filter, All-map}
use Rattle.std.proofs.lemmas.List.Sums.{length-filter, count_by-le-length}
use Rattle.cell_value.specs.declared.state.Key.{Key}
use Rattle.cell_value.specs.declared.state.Keyed.{Keyed}
use Rattle.cell_value.specs.declared.cell.Cell.{Cell}
use Rattle.cell_value.specs.State.{greatest_id}
use Rattle.expr_eval.specs.declared.error.EvalError.{EvalError}
use Rattle.fixed_num.specs.Ranges.{◌>>=◌}
use Rattle.expr_eval.specs.Answers.{Evaluates}
use Rattle.plain_rows.specs.Rows.{AreRows, AreKeys, IsBefore, keys_of}
use Rattle.plain_rows.specs.Filters.{kept}
use Rattle.plain_rows.specs.Calculations.{each_with, with_cell}
use Rattle.plain_rows.proofs.Lists.{kept_passes}

module _ {X Y : Type 0} (f : X → Y) where
  -- what holds of each element as it is seen
  pub all_back : (P : Y → Type 0) (xs : List X) → All P (map f xs) → All (λ x. P (f x)) xs
  all_back P xs h k d within = subst P (get_or-map f xs k d (f d) within) (h k (f d) (omega (arith, length-map xs f)))

  -- a filter leaves pairs as they were
  pairs_filter : (R : Y → Y → Type 0) (p : X → Bool) (xs : List X) → AllPairs R (map f xs) → AllPairs R (map f (filter p xs))
  pairs_filter R p [] h = h
  pairs_filter R p (x ∷ xs) h =
      let rest = pairs_filter R p xs (λ i j d less within. h (suc i) (suc j) d (omega arith) (omega arith)) in
      let later : All (R (f x)) (map f xs) = λ k d within. h 0 (suc k) d (omega arith) (omega arith) in
      let head : All (R (f x)) (map f (filter p xs)) = All-map (R (f x)) f (filter p xs) (All-filter p (λ y. R (f x) (f y)) xs (all_back (R (f x)) xs later)) in
      cond_both (p x) (x ∷ filter p xs) (filter p xs) (λ l. AllPairs R (map f l)) (λ _. AllPairs-cons R (f x) (map f (filter p xs)) head rest) (λ _. rest)

abbrev key_of : Keyed → Key
key_of keyed = keyed.key

-- the id of each row is one that a row may have
pub small_id : (rows : List Keyed) (i : ℕ) (row : Keyed) → AreRows rows → i < length rows → row ≡ get_or rows i row → row.key.id ≤ greatest_id
small_id rows i row are l at =
    subst (λ (keyed : Keyed). keyed.key.id ≤ greatest_id) (sym at) (all_back key_of (λ (key : Key). key.id ≤ greatest_id) rows are.small_ids i row l)

filter_are_rows : (p : Keyed → Bool) (rows : List Keyed) → AreRows rows → AreRows (filter p rows)
filter_are_rows p rows are = record {
  rise = pairs_filter key_of IsBefore p rows are.rise;
  small_ids = All-map (λ (key : Key). key.id ≤ greatest_id) key_of (filter p rows)
      (All-filter p (λ (keyed : Keyed). keyed.key.id ≤ greatest_id) rows (all_back key_of (λ (key : Key). key.id ≤ greatest_id) rows are.small_ids));
  few = omega (arith, are.few, length-map rows key_of, length-map (filter p rows) key_of, length-filter p rows, count_by-le-length p rows);
}

-- what is kept of rows are rows
pub kept_are_rows : (test : Keyed → Option Bool) (rows : List Keyed) → AreRows rows
    → (result : Result (List Keyed) EvalError) → Evaluates result (kept test rows) → IfOk result AreRows
kept_are_rows test rows are (Ok ys) e = subst AreRows (kept_passes test rows ys e) (filter_are_rows (λ x. unwrap_or (test x) false) rows are)
kept_are_rows test rows are (Err e) h = tt

pub first_and_rest : {Y : Type 0} (o : Option Y) (os : Option (List Y)) (ys : List Y) → (o >>= λ y. os >>= λ zs. Some (y ∷ zs)) ≡ Some ys
    → (y : Y) × (zs : List Y) × (o ≡ Some y) × (os ≡ Some zs) × (ys ≡ y ∷ zs)
first_and_rest None os ys e = absurd cc
first_and_rest (Some y) None ys e = absurd cc
first_and_rest (Some y) (Some zs) ys e = (y, zs, refl, refl, cc)

same_key : (o : Option Cell) (out : List ℕ) (x y : Keyed) → option_map (λ cell. with_cell out cell x) o ≡ Some y → y.key ≡ x.key
same_key None out x y e = absurd cc
same_key (Some cell) out x y e = ap (λ o. (unwrap_or o x).key) (sym e)

same_keys : (value : Keyed → Option Cell) (out : List ℕ) (xs ys : List Keyed) → each_with value (with_cell out) xs ≡ Some ys → keys_of ys ≡ keys_of xs
same_keys value out [] ys e = ap (λ o. keys_of (unwrap_or o [])) (sym e)
same_keys value out (x ∷ xs) ys e =
    let (y, zs, first, rest, is) = first_and_rest (option_map (λ cell. with_cell out cell x) (value x)) (each_with value (with_cell out) xs) ys e in
    ap keys_of is ∙ ap₂ (λ (key : Key) keys. key ∷ keys) (same_key (value x) out x y first) (same_keys value out xs zs rest)

-- rows that were given a cell are rows
pub calculated_are_rows : (value : Keyed → Option Cell) (out : List ℕ) (rows : List Keyed) → AreRows rows → (result : Result (List Keyed) EvalError)
    → Evaluates result (each_with value (with_cell out) rows) → IfOk result AreRows
calculated_are_rows value out rows are (Ok ys) e = subst AreKeys (sym (same_keys value out rows ys e)) are
calculated_are_rows value out rows are (Err e) h = tt
