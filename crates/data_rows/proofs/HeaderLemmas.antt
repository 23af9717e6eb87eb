-- A header's columns in the order of their names, and the rows that are filled from them.
use Rattle.std.proofs.Common.{◌≡◌, ℕ, ◌+◌, ◌<◌, T, Bool, true, false, ◌&&◌, List, [], ◌∷◌, ◌++◌, drop, length, map, get_or, refl, sym, ap}
use Rattle.std.proofs.Common.{◌∙◌, add-one, if◌then◌else◌}
use Rattle.std.specs.Prelude.{String, string_bytes, string_cmp}
use Rattle.std.specs.declared.alloc.Global.{Global}
use Rattle.std.specs.declared.cmp.Ordering.TheVariants.{Less, Equal, Greater}
use Rattle.std.specs.Ordering.{nat_cmp, match_ordering}
use Rattle.std.specs.Cmp.Lexicographic.{slice_cmp, nat_list_cmp_total}
use Rattle.std.specs.Str.{bytes_eq}
use Rattle.std.specs.BTreeMap.{insert_entry}
use Rattle.std.specs.FinMap.{is_sorted, put}
use Rattle.std.specs.FinMap.Entries.{below_all, by_order, is_sorted-put}
use Rattle.std.proofs.lemmas.List.{drop_more}
use Rattle.cell_value.specs.Datum.{id_name}
use Rattle.data_rows.specs.CsvRows.{Column}
use Rattle.data_rows.specs.inner.Header.{KeptColumn, named, put_all, kept_at, kept_from, kept_columns}

-- Columns under strings.

named_put : (es : List (String Global × KeptColumn)) (k : String Global) (v : KeptColumn)
    → map named (insert_entry string_cmp es k v) ≡ put (slice_cmp nat_cmp) (string_bytes k) v (map named es)
named_put [] k v = refl
named_put (e ∷ es) k v =
    elim (string_cmp k e.0) as (λ r. map named (match_ordering r ((k, v) ∷ e ∷ es) ((e.0, v) ∷ es) (e ∷ insert_entry string_cmp es k v))
    ≡ by_order r ((string_bytes k, v) ∷ named e ∷ map named es) ((string_bytes e.0, v) ∷ map named es)
    (named e ∷ put (slice_cmp nat_cmp) (string_bytes k) v (map named es))) [
      | Less ↦ refl
      | Equal ↦ refl
      | Greater ↦ ap (λ l. named e ∷ l) (named_put es k v)
    ]

-- a column that is put under a string
pub put_one : (es fs : List (String Global × KeptColumn)) (k : String Global) (at : ℕ) (column : Column)
    → fs ≡ insert_entry string_cmp es k (at, column.1) → string_bytes k ≡ column.0 → bytes_eq column.0 id_name ≡ false
    → map named fs ≡ put_all (map named es) (kept_at at column)
put_one es fs k at column e n other =
    ap (map named) e ∙ named_put es k (at, column.1) ∙ ap (λ q. put (slice_cmp nat_cmp) q (at, column.1) (map named es)) n
    ∙ sym (ap (λ b. put_all (map named es) (if b then [] else (column.0, (at, column.1)) ∷ [])) other)

-- a column that is dropped
pub put_none : (es : List (String Global × KeptColumn)) (at : ℕ) (column : Column) → bytes_eq column.0 id_name ≡ true
    → map named es ≡ put_all (map named es) (kept_at at column)
put_none es at column is_id = sym (ap (λ b. put_all (map named es) (if b then [] else (column.0, (at, column.1)) ∷ [])) is_id)

put_more : {X : Type 0} (all xs ys : List (List ℕ × X)) → put_all all (xs ++ ys) ≡ put_all (put_all all xs) ys
put_more all [] ys = refl
put_more all (x ∷ xs) ys = put_more (put (slice_cmp nat_cmp) x.0 x.1 all) xs ys

-- one column more
pub one_kept : (columns : List Column) (i : ℕ) (column : Column) (old new whole : List (List ℕ × KeptColumn))
    → i < length columns → column ≡ get_or columns i column → new ≡ put_all old (kept_at i column)
    → put_all old (kept_from i (drop i columns)) ≡ whole → put_all new (kept_from (i + 1) (drop (i + 1) columns)) ≡ whole
one_kept columns i column old new whole lt at e h =
    ap (λ l. put_all l (kept_from (i + 1) (drop (i + 1) columns))) e
    ∙ sym (put_more old (kept_at i column) (kept_from (i + 1) (drop (i + 1) columns)))
    ∙ ap (λ n. put_all old (kept_at i column ++ kept_from n (drop (i + 1) columns))) (add-one i)
    ∙ ap (λ l. put_all old (kept_from i l)) (sym (drop_more columns i column lt ∙ ap (λ c. c ∷ drop (i + 1) columns) (sym at))) ∙ h

-- The order of the names.

put_all_sorted : {X : Type 0} (all xs : List (List ℕ × X)) → T (is_sorted (slice_cmp nat_cmp) all) → T (is_sorted (slice_cmp nat_cmp) (put_all all xs))
put_all_sorted all [] h = h
put_all_sorted all (x ∷ xs) h =
    put_all_sorted (put (slice_cmp nat_cmp) x.0 x.1 all) xs (is_sorted-put (slice_cmp nat_cmp) nat_list_cmp_total x.0 x.1 all h)

pub kept_sorted : (columns : List Column) → T (is_sorted (slice_cmp nat_cmp) (kept_columns columns))
kept_sorted columns = put_all_sorted [] (kept_from 0 columns) tt

two : (a b : Bool) → T a → T b → T (a && b)
two true b p q = q
two false b p q = absurd p

both : (a b : Bool) → T (a && b) → T a × T b
both true b h = (tt, h)
both false b h = absurd h

module _ {X Y : Type 0} (g : X → Y) where
  -- entries of which the names stay
  abbrev pub renewed : List (List ℕ × X) → List (List ℕ × Y)
  renewed es = map (λ e. (e.0, g e.1)) es

  below_renewed : (k : List ℕ) (es : List (List ℕ × X)) → T (below_all (slice_cmp nat_cmp) k es) → T (below_all (slice_cmp nat_cmp) k (renewed es))
  below_renewed k [] h = tt
  below_renewed k (e ∷ es) h = let parts = both _ _ h in two _ _ parts.0 (below_renewed k es parts.1)

  pub sorted_renewed : (es : List (List ℕ × X)) → T (is_sorted (slice_cmp nat_cmp) es) → T (is_sorted (slice_cmp nat_cmp) (renewed es))
  sorted_renewed [] h = tt
  sorted_renewed (e ∷ es) h = let parts = both _ _ h in two _ _ (below_renewed e.0 es parts.0) (sorted_renewed es parts.1)

  put_renewed : (k : List ℕ) (v : X) (es : List (List ℕ × X))
      → put (slice_cmp nat_cmp) k (g v) (renewed es) ≡ renewed (put (slice_cmp nat_cmp) k v es)
  put_renewed k v [] = refl
  put_renewed k v (e ∷ es) =
      elim (slice_cmp nat_cmp k e.0) as (λ r. by_order r ((k, g v) ∷ renewed (e ∷ es)) ((e.0, g v) ∷ renewed es)
      ((e.0, g e.1) ∷ put (slice_cmp nat_cmp) k (g v) (renewed es))
      ≡ renewed (by_order r ((k, v) ∷ e ∷ es) ((e.0, v) ∷ es) (e ∷ put (slice_cmp nat_cmp) k v es))) [
        | Less ↦ refl
        | Equal ↦ refl
        | Greater ↦ ap (λ l. (e.0, g e.1) ∷ l) (put_renewed k v es)
      ]

  -- whether entries are put in before or after their values are made is the same
  pub put_all_renewed : (all xs : List (List ℕ × X)) → put_all (renewed all) (renewed xs) ≡ renewed (put_all all xs)
  put_all_renewed all [] = refl
  put_all_renewed all (x ∷ xs) =
      ap (λ l. put_all l (renewed xs)) (put_renewed x.0 x.1 all) ∙ put_all_renewed (put (slice_cmp nat_cmp) x.0 x.1 all) xs
