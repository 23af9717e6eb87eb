-- Keys of the rows of groups.
use Rattle.std.proofs.Common.{◌≡◌, suc, ◌≤◌, Bool, List, [], ◌∷◌, ◌++◌, map, length, All, AllPairs, Option, Some, None, Result, Ok, Err}
use Rattle.std.proofs.Common.{IfOk, unwrap_or, option_map, refl, sym, ap, ap₂, ◌∙◌, subst, arith}
use Rattle.std.specs.List.{list_any}
use Rattle.std.proofs.lemmas.Bool.{cond_both}
use Rattle.std.proofs.lemmas.List.{length-map}
use Rattle.std.proofs.lemmas.List.Kept.{AllPairs-cons}
use Rattle.std.proofs.lemmas.List.Elements.{All-map, All-cons, All-tail, All-head}
use Rattle.fixed_num.specs.Ranges.{all_found}
use Rattle.cell_value.specs.declared.state.Key.{Key}
use Rattle.cell_value.specs.declared.state.Keyed.{Keyed}
use Rattle.cell_value.specs.State.{greatest_id}
use Rattle.cell_value.specs.Datum.{cell_at}
use Rattle.expr_eval.specs.declared.error.EvalError.{EvalError}
use Rattle.expr_eval.specs.Answers.{Evaluates}
use Rattle.plain_rows.specs.declared.transforms.GroupOf.{GroupOf}
use Rattle.plain_rows.specs.Rows.{AreRows, AreKeys, IsBefore, keys_of}
use Rattle.plain_rows.proofs.Keys.{first_and_rest, all_back}
use Rattle.plain_groups.specs.Groups.{firsts_behind, firsts, alike, group_of}
use Rattle.plain_groups.specs.GroupRows.{op_cells, group_row, aggregated, join_aggregated}
use Rattle.plain_rows.specs.Lookups.{with_cells}
use Rattle.plain_rows.proofs.LookupLemmas.{key_stays}

module _ {X : Type 0} (like : X → X → Bool) where
  all_firsts : (P : X → Type 0) (before xs : List X) → All P xs → All P (firsts_behind like before xs)
  all_firsts P before [] h = h
  all_firsts P before (x ∷ xs) h =
      let later = all_firsts P (before ++ x ∷ []) xs (All-tail P x xs h) in
      cond_both (list_any (λ y. like y x) before) (firsts_behind like (before ++ x ∷ []) xs) (x ∷ firsts_behind like (before ++ x ∷ []) xs) (All P)
      (λ _. later) (λ _. All-cons P x (firsts_behind like (before ++ x ∷ []) xs) (All-head P x xs h) later)

  few_firsts : (before xs : List X) → length (firsts_behind like before xs) ≤ length xs
  few_firsts before [] = omega arith
  few_firsts before (x ∷ xs) =
      let later = few_firsts (before ++ x ∷ []) xs in
      cond_both (list_any (λ y. like y x) before) (firsts_behind like (before ++ x ∷ []) xs)
      (x ∷ firsts_behind like (before ++ x ∷ []) xs) (λ l. length l ≤ suc (length xs))
      (λ _. omega (arith, later)) (λ _. omega (arith, later))

  pairs_firsts : {Y : Type 0} (f : X → Y) (R : Y → Y → Type 0) (before xs : List X) → AllPairs R (map f xs) → AllPairs R (map f (firsts_behind like before xs))
  pairs_firsts f R before [] h = h
  pairs_firsts f R before (x ∷ xs) h =
      let rest = pairs_firsts f R (before ++ x ∷ []) xs (λ i j d less within. h (suc i) (suc j) d (omega arith) (omega arith)) in
      let later : All (R (f x)) (map f xs) = λ k d within. h 0 (suc k) d (omega arith) (omega arith) in
      let head : All (R (f x)) (map f (firsts_behind like (before ++ x ∷ []) xs)) =
      All-map (R (f x)) f (firsts_behind like (before ++ x ∷ []) xs) (all_firsts (λ y. R (f x) (f y)) (before ++ x ∷ []) xs (all_back f (R (f x)) xs later)) in
      cond_both (list_any (λ y. like y x) before) (firsts_behind like (before ++ x ∷ []) xs)
      (x ∷ firsts_behind like (before ++ x ∷ []) xs) (λ l. AllPairs R (map f l))
      (λ _. rest) (λ _. AllPairs-cons R (f x) (map f (firsts_behind like (before ++ x ∷ []) xs)) head rest)

abbrev key_of : Keyed → Key
key_of keyed = keyed.key

firsts_are_rows : (like : Keyed → Keyed → Bool) (rows : List Keyed) → AreRows rows → AreRows (firsts like rows)
firsts_are_rows like rows are = record {
  rise = pairs_firsts like key_of IsBefore [] rows are.rise;
  small_ids =
      All-map (λ (key : Key). key.id ≤ greatest_id) key_of (firsts like rows)
      (all_firsts like (λ (keyed : Keyed). keyed.key.id ≤ greatest_id) [] rows (all_back key_of (λ (key : Key). key.id ≤ greatest_id) rows are.small_ids));
  few = omega (arith, are.few, length-map rows key_of, length-map (firsts like rows) key_of, few_firsts like [] rows);
}

same_key : {A : Type 0} (h : A → Keyed) (key : Key) → ((a : A) → (h a).key ≡ key) → (o : Option A) (y : Keyed) → option_map h o ≡ Some y → y.key ≡ key
same_key h key same None y e = absurd (cc)
same_key h key same (Some a) y e = ap (λ o. (unwrap_or o y).key) (sym e) ∙ same a

pub same_keys_made : {A : Type 0} (h : Keyed → A → Keyed) (f : Keyed → Option A) → ((x : Keyed) (a : A) → (h x a).key ≡ x.key) → (xs ys : List Keyed)
    → all_found (map (λ x. option_map (h x) (f x)) xs) ≡ Some ys → keys_of ys ≡ keys_of xs
same_keys_made h f same [] ys e = ap (λ o. keys_of (unwrap_or o [])) (sym e)
same_keys_made h f same (x ∷ xs) ys e =
    let (y, zs, first, rest, is) = first_and_rest (option_map (h x) (f x)) (all_found (map (λ x. option_map (h x) (f x)) xs)) ys e in
    ap keys_of is ∙ ap₂ (λ (key : Key) keys. key ∷ keys) (same_key (h x) x.key (same x) (f x) y first) (same_keys_made h f same xs zs rest)

-- the rows of groups are rows
pub aggregated_are_rows : (g : GroupOf) (rows : List Keyed) → AreRows rows
    → (result : Result (List Keyed) EvalError) → Evaluates result (aggregated g rows) → IfOk result AreRows
aggregated_are_rows g rows are (Ok ys) e =
    subst AreKeys (sym (same_keys_made (group_row g) (λ first. op_cells cell_at g.ops (group_of cell_at g.groupby rows first))
    (λ x given. refl) (firsts (alike cell_at g.groupby) rows) ys e))
    (firsts_are_rows (alike cell_at g.groupby) rows are)
aggregated_are_rows g rows are (Err e) h = tt

-- the rows with what their groups give are rows
pub joined_are_rows : (g : GroupOf) (rows : List Keyed) → AreRows rows
    → (result : Result (List Keyed) EvalError) → Evaluates result (join_aggregated g rows) → IfOk result AreRows
joined_are_rows g rows are (Ok ys) e =
    subst AreKeys (sym
    (same_keys_made with_cells (λ row. op_cells cell_at g.ops (group_of cell_at g.groupby rows row)) (λ x cells. key_stays cells x) rows ys e)) are
joined_are_rows g rows are (Err e) h = tt
