-- The extents of data sets, one transform and one set after the other.
use Rattle.std.proofs.Common.{◌≡◌, ℕ, ℤ, zero, suc, ◌+◌, ◌*◌, ◌<◌, ◌≤◌, Bool, true, false, cond, List, [], ◌∷◌, ◌++◌, ◌||◌, drop, map}
use Rattle.std.proofs.Common.{length, get_or, Option, Some, None, unwrap_or, is_some, append_assoc, refl, sym, ap, ◌∙◌, subst, arith}
use Rattle.std.specs.List.{cons_option, list_any}
use Rattle.std.specs.Option.{option_map_or}
use Rattle.std.specs.Str.{bytes_eq}
use Rattle.std.proofs.lemmas.List.{drop_more, drop_all, append-nil}
use Rattle.cell_value.specs.declared.state.Keyed.{Keyed}
use Rattle.cell_value.specs.declared.state.Named.{Named}
use Rattle.cell_value.specs.State.{Dataset, dataset_of}
use Rattle.cell_value.specs.Datum.{Datum, datum_of, cell_at}
use Rattle.expr_eval.specs.Values.{Values}
use Rattle.plain_rows.specs.Rows.{AreRows, keys_of}
use Rattle.cell_value.specs.Cell.{number_in}
use Rattle.plain_bins.specs.Extents.{numbers_of, extent_of}
use Rattle.vega_spec.specs.declared.data.DataSet.{DataSet}
use Rattle.vega_spec.specs.declared.transforms.Extent.{Extent}
use Rattle.vega_spec.specs.declared.transforms.Transform.{Transform}
use Rattle.vega_lists.specs.Scopes.{Scope}
use Rattle.vega_lists.specs.Transforms.{transformed, transforms_of}
use Rattle.vega_lists.specs.Products.{Products, KeysFit, fold_length, fold_product, begun_product, and_its_product}
use Rattle.vega_lists.specs.Lists.{begun_rows}
use Rattle.vega_lists.specs.Held.{scope_read, AreAllRows, AreSources, MayFold}
use Rattle.vega_lists.proofs.KeyLemmas.{data_keys, keys_seen, transformed_fits}
use Rattle.vega_lists.proofs.OuterLemmas.{none_fit}
use Rattle.vega_signals.specs.Extents.{Settled, extent_asked, data_extent, extent_over, extent_here, rows_left, all_left, extents_in}
use Rattle.vega_signals.specs.Extents.{with_rows_left, set_extents}
use Rattle.vega_signals.specs.Outer.{Listed, ListedMayFold}
use Rattle.vega_signals.specs.inner.Rows.{RowsByName, rows_of, scope_by, SetsMayFold, asks}
use Rattle.vega_signals.proofs.RowLemmas.{begun_fit, scope_yet, rows_yet}

-- the numbers of rows as they are read
pub numbers_seen : (name : List ℕ) (rows : List Keyed) → numbers_of cell_at name rows ≡ numbers_of (λ (datum : Datum). datum.cell) name (map datum_of rows)
numbers_seen name [] = refl
numbers_seen name (row ∷ rows) = ap (cons_option (number_in (cell_at row name))) (numbers_seen name rows)

-- the extent of rows is that of the rows as they are read
pub extent_read : (field name : List ℕ) (rows list : List Keyed) (found : Option (ℤ × ℤ)) → name ≡ field → list ≡ rows
    → found ≡ extent_of (numbers_of cell_at name list) → found ≡ data_extent field (map datum_of rows)
extent_read field name rows list found p q e = e ∙ ap extent_of ((λ i. numbers_of cell_at (p i) (q i)) ∙ numbers_seen field rows)

left_or_none : (values : Values) (scope : Scope) (t : Transform) (rows : List Datum) (n : ℕ) → KeysFit n (data_keys rows)
    → (o : Option (List Datum)) → transformed values scope t rows ≡ o → KeysFit (n * fold_length t) (data_keys (unwrap_or o []))
left_or_none values scope t rows n fits None e = none_fit (n * fold_length t)
left_or_none values scope t rows n fits (Some made) e = transformed_fits values scope t rows made n e fits

-- what a transform leaves has keys such as its product allows
pub left_fits : (values : Values) (scope : Scope) (t : Transform) (rows : List Datum) (n : ℕ) → KeysFit n (data_keys rows)
    → KeysFit (n * fold_length t) (data_keys (rows_left values scope t rows))
left_fits values scope t rows n fits = left_or_none values scope t rows n fits (transformed values scope t rows) refl

pub all_left_fits : (values : Values) (scope : Scope) (ts : List Transform) (rows : List Datum) (n : ℕ) → KeysFit n (data_keys rows)
    → KeysFit (fold_product n ts) (data_keys (all_left values scope ts rows))
all_left_fits values scope [] rows n fits = fits
all_left_fits values scope (t ∷ ts) rows n fits =
    all_left_fits values scope ts (rows_left values scope t rows) (n * fold_length t) (left_fits values scope t rows n fits)

first_may_fold : (rows : List Keyed) (t : Transform) (ts : List Transform) → MayFold rows (t ∷ ts) → MayFold rows (t ∷ [])
first_may_fold rows t ts (n, fits, small) = (n, fits, λ k d lt. at_first k d lt (small 0 d (omega arith)))
  where
    at_first : (k : ℕ) (d : ℕ) → k < 1 → n * fold_length t ≤ 8 → get_or (n * fold_length t ∷ []) k d ≤ 8
    at_first zero d lt h = h
    at_first (suc k) d lt h = absurd (omega arith)

others_may_fold : (values : Values) (scope : Scope) (rows left : List Keyed) (t : Transform) (ts : List Transform) → MayFold rows (t ∷ ts)
    → map datum_of left ≡ rows_left values scope t (map datum_of rows) → MayFold left ts
others_may_fold values scope rows left t ts (n, fits, small) e =
    let before : KeysFit n (data_keys (map datum_of rows)) = subst (KeysFit n) (sym (keys_seen rows)) fits in
    let after : KeysFit (n * fold_length t) (data_keys (map datum_of left)) =
    subst (λ (l : List Datum). KeysFit (n * fold_length t) (data_keys l)) (sym e) (left_fits values scope t (map datum_of rows) n before) in
    (n * fold_length t, subst (KeysFit (n * fold_length t)) (keys_seen left) after, λ k d lt. small (suc k) d (omega arith))

-- the rows that were left so far and the extents that were found, and what they give with the transforms that are to come
pub record IsOnTheWay (values : Values) (scope : Scope) (rows : List Datum) (extents : Settled) (coming : List Transform) (left : List Keyed)
    (found : Settled) : Type 0 where
  pub leaves : all_left values scope coming (map datum_of left) ≡ rows
  pub finds : found ++ extents_in values scope coming (map datum_of left) ≡ extents
  pub are : AreRows left
  pub folds : MayFold left coming

module _ (values : Values) (scope : Scope) (rows : List Datum) (extents : Settled) (all : List Transform) (i : ℕ) (t : Transform)
    (left : List Keyed) (found : Settled) (lt : i < length all) (at : t ≡ get_or all i t)
    (way : IsOnTheWay values scope rows extents (drop i all) left found) where
  here : IsOnTheWay values scope rows extents (t ∷ drop (i + 1) all) left found
  here = subst (λ coming. IsOnTheWay values scope rows extents coming left found) (drop_more all i t lt ∙ ap (λ x. x ∷ drop (i + 1) all) (sym at)) way

  -- the next transform may fold
  pub next_may_fold : MayFold left (t ∷ [])
  next_may_fold = first_may_fold left t (drop (i + 1) all) here.folds

  -- a transform more
  pub one_more : (next : List Keyed) (more : Settled) → map datum_of next ≡ rows_left values scope t (map datum_of left)
      → AreRows next → more ≡ found ++ extent_here t (map datum_of left) → IsOnTheWay values scope rows extents (drop (i + 1) all) next more
  one_more next more e are is = record {
    leaves = ap (all_left values scope (drop (i + 1) all)) e ∙ here.leaves;
    finds = ap (λ l. l ++ extents_in values scope (drop (i + 1) all) (map datum_of next)) is
        ∙ append_assoc found (extent_here t (map datum_of left)) (extents_in values scope (drop (i + 1) all) (map datum_of next))
        ∙ ap (λ l. found ++ (extent_here t (map datum_of left) ++ extents_in values scope (drop (i + 1) all) l)) e
        ∙ here.finds;
    are = are;
    folds = others_may_fold values scope left next t (drop (i + 1) all) here.folds e;
  }

-- where no transform is to come
module _ (values : Values) (scope : Scope) (rows : List Datum) (extents : Settled) (all : List Transform) (i : ℕ) (left : List Keyed)
    (found : Settled) (past : length all ≤ i) (way : IsOnTheWay values scope rows extents (drop i all) left found) where
  over : IsOnTheWay values scope rows extents [] left found
  over = subst (λ coming. IsOnTheWay values scope rows extents coming left found) (drop_all i all past) way

  pub left_at_the_end : map datum_of left ≡ rows
  left_at_the_end = over.leaves

  pub found_at_the_end : found ≡ extents
  found_at_the_end = sym (append-nil found) ∙ over.finds

-- the rows with which a data set begins may fold
pub begun_may_fold : (sources : List Named) (sound : AreSources sources) (outer : Listed) (lists : RowsByName) (set : DataSet) (rows : List Keyed)
    → SetsMayFold outer lists (set ∷ []) → map datum_of rows ≡ begun_rows (map dataset_of sources) (scope_by outer lists) set → MayFold rows (transforms_of set)
begun_may_fold sources sound outer lists set rows (products, fits, folds) e =
    let n = begun_product products set in (
      n,
      subst (KeysFit n) (keys_seen rows)
          (subst (λ (l : List Datum). KeysFit n (data_keys l)) (sym e) (begun_fit sources sound outer lists set products fits)),
      folds.0,
    )

fits_either : (b : Bool) (p q : ℕ) (rows others : List Datum) → KeysFit p (data_keys rows)
    → KeysFit q (data_keys others) → KeysFit (cond b p q) (data_keys (cond b rows others))
fits_either true p q rows others x y = x
fits_either false p q rows others x y = y

-- the rows that names stand for so far and the extents that were found, and what they give with the data sets that are to come
pub record SetsLeft (values : Values) (sources : List Named) (outer : Listed) (whole : Settled) (coming : List DataSet) (lists : RowsByName)
    (found : Settled) : Type 0 where
  pub finds : found ++ set_extents values (map dataset_of sources) (scope_by outer lists) coming ≡ whole
  pub are : AreAllRows (rows_of outer lists)
  pub folds : SetsMayFold outer lists coming

module _ (values : Values) (sources : List Named) (sound : AreSources sources) (outer : Listed) (whole : Settled) (all : List DataSet) (i : ℕ) (set : DataSet)
    (lists : RowsByName) (found : Settled) (lt : i < length all) (at : set ≡ get_or all i set)
    (way : SetsLeft values sources outer whole (drop i all) lists found) where
  set_here : SetsLeft values sources outer whole (set ∷ drop (i + 1) all) lists found
  set_here = subst (λ coming. SetsLeft values sources outer whole coming lists found) (drop_more all i set lt ∙ ap (λ s. s ∷ drop (i + 1) all) (sym at)) way

  -- the next data set may fold
  pub set_may_fold : SetsMayFold outer lists (set ∷ [])
  set_may_fold = let (products, fits, folds) = set_here.folds in (products, fits, (folds.0, tt))

  fits_after : (next : RowsByName) (products : Products) → ((name : List ℕ) → KeysFit (products name) (keys_of (rows_of outer lists name)))
      → scope_by outer next ≡ with_rows_left values (map dataset_of sources) (scope_by outer lists) set
      → (name : List ℕ) → KeysFit (and_its_product products set name) (keys_of (rows_of outer next name))
  fits_after next products fits scope other =
      let product = fold_product (begun_product products set) (transforms_of set) in
      let begun = begun_rows (map dataset_of sources) (scope_by outer lists) set in
      let made : KeysFit product (data_keys (all_left values (scope_by outer lists) (transforms_of set) begun)) =
      all_left_fits values (scope_by outer lists) (transforms_of set) begun
      (begun_product products set) (begun_fit sources sound outer lists set products fits) in
      let old : KeysFit (products other) (data_keys (scope_by outer lists other)) =
      subst (KeysFit (products other)) (sym (keys_seen (rows_of outer lists other))) (fits other) in
      let now : KeysFit (and_its_product products set other) (data_keys (scope_by outer next other)) =
      subst (λ (s : Scope). KeysFit (and_its_product products set other) (data_keys (s other))) (sym scope)
      (fits_either (bytes_eq set.name other) product (products other)
      (all_left values (scope_by outer lists) (transforms_of set) begun) (scope_by outer lists other) made old) in
      subst (KeysFit (and_its_product products set other)) (keys_seen (rows_of outer next other)) now

  -- a data set more
  pub set_more : (next : RowsByName) (more : Settled) → scope_by outer next ≡ with_rows_left values (map dataset_of sources) (scope_by outer lists) set
      → AreAllRows (rows_of outer next)
      → more ≡ found ++ extents_in values (scope_by outer lists) (transforms_of set) (begun_rows (map dataset_of sources) (scope_by outer lists) set)
      → SetsLeft values sources outer whole (drop (i + 1) all) next more
  set_more next more scope are is =
      let (products, fits, folds) = set_here.folds in
      let here = extents_in values (scope_by outer lists) (transforms_of set) (begun_rows (map dataset_of sources) (scope_by outer lists) set) in
      let later : Scope → Settled = λ s. set_extents values (map dataset_of sources) s (drop (i + 1) all) in
      record {
        finds = ap (λ l. l ++ later (scope_by outer next)) is ∙ append_assoc found here (later (scope_by outer next))
            ∙ ap (λ s. found ++ (here ++ later s)) scope ∙ set_here.finds;
        are = are;
        folds = (and_its_product products set, fits_after next products fits scope, folds.1);
      }

-- where no data set was read yet
pub sets_begin : (values : Values) (sources : List Named) (outer : Listed) (sets : List DataSet) (lists : RowsByName) (found : Settled)
    → ((outer : Listed) (name : List ℕ) → rows_of outer lists name ≡ outer name) → found ≡ [] → AreAllRows outer → ListedMayFold outer sets
    → SetsLeft values sources outer (set_extents values (map dataset_of sources) (scope_read outer) sets) sets lists found
sets_begin values sources outer sets lists found nothing e are (products, fits, folds) = record {
  finds = ap (λ l. l ++ set_extents values (map dataset_of sources) (scope_by outer lists) sets) e
      ∙ ap (λ s. set_extents values (map dataset_of sources) s sets) (scope_yet outer lists (nothing outer));
  are = rows_yet outer lists (nothing outer) are;
  folds = (products, (λ name. subst (λ (rows : List Keyed). KeysFit (products name) (keys_of rows)) (sym (nothing outer name)) (fits name)), folds);
}

-- where each was read
pub sets_over : (values : Values) (sources : List Named) (outer : Listed) (whole : Settled) (all : List DataSet) (i : ℕ) (lists : RowsByName)
    (found : Settled) → length all ≤ i → SetsLeft values sources outer whole (drop i all) lists found → found ≡ whole
sets_over values sources outer whole all i lists found past way =
    let over : SetsLeft values sources outer whole [] lists found =
    subst (λ coming. SetsLeft values sources outer whole coming lists found) (drop_all i all past) way in
    sym (append-nil found) ∙ over.finds

module _ (values : Values) where
  none_asked : (o : Option Extent) (rows : List Datum) → is_some o ≡ false → option_map_or (λ e. extent_over rows e ∷ []) o [] ≡ []
  none_asked None rows e = refl
  none_asked (Some x) rows e = absurd cc

  no_extents_here : (scope : Scope) (t : Transform) (ts : List Transform) (rows : List Datum) (b : Bool) → is_some (extent_asked t) ≡ b
      → (b || list_any (λ t. is_some (extent_asked t)) ts) ≡ false
      → (list_any (λ t. is_some (extent_asked t)) ts ≡ false → extents_in values scope ts (rows_left values scope t rows) ≡ [])
      → extents_in values scope (t ∷ ts) rows ≡ []
  no_extents_here scope t ts rows true is e later = absurd cc
  no_extents_here scope t ts rows false is e later =
      ap (λ l. l ++ extents_in values scope ts (rows_left values scope t rows)) (none_asked (extent_asked t) rows is) ∙ later e

  no_extents_in : (scope : Scope) (ts : List Transform) (rows : List Datum)
      → list_any (λ t. is_some (extent_asked t)) ts ≡ false → extents_in values scope ts rows ≡ []
  no_extents_in scope [] rows e = refl
  no_extents_in scope (t ∷ ts) rows e =
      no_extents_here scope t ts rows (is_some (extent_asked t)) refl e (no_extents_in scope ts (rows_left values scope t rows))

  no_extents_of : (sources : List Dataset) (scope : Scope) (set : DataSet) (sets : List DataSet) (b : Bool) → asks set ≡ b → (b || list_any asks sets) ≡ false
      → (list_any asks sets ≡ false → set_extents values sources (with_rows_left values sources scope set) sets ≡ [])
      → set_extents values sources scope (set ∷ sets) ≡ []
  no_extents_of sources scope set sets true is e later = absurd cc
  no_extents_of sources scope set sets false is e later =
      ap (λ l. l ++ set_extents values sources (with_rows_left values sources scope set) sets)
      (no_extents_in scope (transforms_of set) (begun_rows sources scope set) is) ∙ later e

  -- where no data set asks there are no extents
  pub no_extents : (sources : List Dataset) (scope : Scope) (sets : List DataSet) → list_any asks sets ≡ false → set_extents values sources scope sets ≡ []
  no_extents sources scope [] e = refl
  no_extents sources scope (set ∷ sets) e =
      no_extents_of sources scope set sets (asks set) refl e (no_extents sources (with_rows_left values sources scope set) sets)
