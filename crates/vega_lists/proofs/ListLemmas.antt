-- One data set after the other.
use Rattle.std.proofs.Common.{◌≡◌, ℕ, suc, ◌+◌, ◌<◌, Bool, true, false, cond, List, [], ◌∷◌, ◌++◌, drop, map, length, get_or, All, Option}
use Rattle.std.proofs.Common.{Some, None, unwrap_or, Result, Ok, Err, IfOk, refl, sym, ap, ◌∙◌, subst, arith}
use Rattle.std.specs.Option.{option_map_or}
use Rattle.std.specs.BTreeMap as tree
use Rattle.std.specs.Str.{bytes_eq}
use Rattle.std.proofs.lemmas.List.{drop_more}
use Rattle.fixed_num.specs.Ranges.{◌>>=◌}
use Rattle.cell_value.specs.declared.state.Keyed.{Keyed}
use Rattle.cell_value.specs.declared.state.Named.{Named}
use Rattle.cell_value.specs.State.{dataset_of}
use Rattle.cell_value.specs.Datum.{Datum, datum_of}
use Rattle.expr_eval.specs.declared.error.EvalError.{EvalError}
use Rattle.expr_eval.specs.declared.error.EvalError.TheVariants.{Overflow, Memory}
use Rattle.expr_eval.specs.Values.{Values}
use Rattle.plain_rows.specs.Rows.{AreRows, AreKeys, keys_of}
use Rattle.vega_spec.specs.declared.data.DataSet.{DataSet}
use Rattle.vega_spec.specs.declared.transforms.Transform.{Transform}
use Rattle.vega_lists.specs.declared.held.RowsIn.{RowsIn}
use Rattle.vega_lists.specs.declared.held.RowsIn.TheVariants.{Made, Nothing}
use Rattle.vega_lists.specs.declared.held.Lists.{Lists}
use Rattle.vega_lists.specs.Scopes.{Scope, with_list, list_named}
use Rattle.vega_lists.specs.Transforms.{all_transformed, transforms_of, OfTransforms}
use Rattle.vega_lists.specs.Products.{Products, KeysFit, FoldsFit, fold_product, begun_product, and_its_product, products_after, no_folds}
use Rattle.vega_lists.specs.Lists.{begun_rows, list_of, and_its_list, lists_of}
use Rattle.vega_lists.specs.Held.{rows_there, place_named, rows_named, scope_in, AreLists, AreSources, MayFold, GivesLists, scope_read, AreAllRows}
use Rattle.vega_lists.specs.Inside.{RowsByName, no_rows, AllKeysFit, SetsMayFold, rows_inside, GivesInside}
use Rattle.vega_lists.specs.Laws.{KeysOfSets}
use Rattle.vega_lists.specs.inner.Places.{Places, IsPut, IsThere, ArePlaced, ArePlacesOf, IsNamed, HoldsAlso, AddsList, IsHeldWhere}
use Rattle.vega_lists.specs.inner.Places.{HoldsRead, TakesIn, rows_begun}
use Rattle.vega_lists.proofs.KeyLemmas.{data_keys, keys_seen, after_some, same_value, all_transformed_fits}
use Rattle.vega_lists.proofs.PlaceLemmas.{held_put, placed_put, held_made, placed_made, rows_as_read, rows_from_read}
use Rattle.vega_lists.proofs.OuterLemmas.{none_are, none_fit, named_also, own_reads, own_fit, nothing_outside}

-- without transforms the rows are as they were
untouched : (values : Values) (scope : Scope) (ts : List Transform) (rows : List Datum) → length ts ≡ 0 → all_transformed values scope ts rows ≡ Some rows
untouched values scope [] rows none = refl
untouched values scope (t ∷ ts) rows none = absurd (omega (arith, none))

module _ (sources : List Named) (old next : Lists) (name : List ℕ) (placed : ArePlaced old) where
  -- a name put for a place
  pub adds_place : (values : Values) (ts : List Transform) (place : RowsIn) → length ts ≡ 0
      → AreRows (rows_there sources old.made place) → IsThere (length old.made) place
      → next.made ≡ old.made → IsPut old.by_name name place next.by_name
      → HoldsAlso sources old (Ok next) name (all_transformed values (scope_in sources old) ts (map datum_of (rows_there sources old.made place)))
  adds_place values ts place none rows there same put = (
    rows_there sources old.made place,
    untouched values (scope_in sources old) ts (map datum_of (rows_there sources old.made place)) none,
    rows,
    held_put sources old next name place same put,
    placed_put old next name place same put there placed,
  )

  -- a name put for rows that were made
  pub adds_made : (given : Option (List Datum)) (rows : List Keyed) → given ≡ Some (map datum_of rows) → AreRows rows
      → next.made ≡ old.made ++ rows ∷ [] → IsPut old.by_name name (Made (length old.made)) next.by_name → HoldsAlso sources old (Ok next) name given
  adds_made given rows is they same put = (rows, is, they, held_made sources old next name rows same put placed, placed_made old next name rows same put placed)

pub record Both (rows : List Datum) : Type 0 where
  pub keys : AreKeys (data_keys rows)
  pub fits : KeysFit 1 (data_keys rows)

both_either : (b : Bool) (rows others : List Datum) → Both rows → Both others → Both (cond b rows others)
both_either true rows others x y = x
both_either false rows others x y = y

-- the rows of the first source of a name
pub named_source : (sources : List Named) → AreSources sources → (name : List ℕ) → Both (list_named (map dataset_of sources) name)
named_source [] are name = record { keys = none_are; fits = none_fit 1 }
named_source (source ∷ others) are name =
    let (rows, fits) = are 0 source (omega arith) in
    both_either (bytes_eq source.name name) (map datum_of source.rows) (list_named (map dataset_of others) name)
    (record { keys = rows_as_read source.rows rows; fits = subst (KeysFit 1) (sym (keys_seen source.rows)) fits })
    (named_source others (λ k d lt. are (suc k) d (omega arith)) name)

module _ (sources : List Named) (given : Places) (lists : Lists) (set : DataSet) (sound : AreSources sources) (right : ArePlacesOf sources given) where
  -- the rows with which a data set begins are rows
  pub begun_are_rows : AreLists sources lists → AreRows (rows_begun sources given lists set)
  begun_are_rows are = by_source set.source
    where
      by_source : (o : Option (List ℕ)) → AreRows (rows_there sources lists.made (option_map_or (place_named lists.by_name) o (place_named given set.name)))
      by_source None = rows_from_read _ _ (right.read lists.made set.name) (named_source sources sound set.name).keys
      by_source (Some name) = are name

  -- and their keys are such as its first product allows
  begun_fit : (products : Products) → ((name : List ℕ) → KeysFit (products name) (keys_of (rows_named sources lists name)))
      → KeysFit (begun_product products set) (keys_of (rows_begun sources given lists set))
  begun_fit products fits = by_source set.source
    where
      by_source : (o : Option (List ℕ))
          → KeysFit (option_map_or products o 1)
          (keys_of (rows_there sources lists.made (option_map_or (place_named lists.by_name) o (place_named given set.name))))
      by_source None =
          subst (KeysFit 1) (keys_seen (rows_there sources lists.made (place_named given set.name)))
          (subst (λ (rows : List Datum). KeysFit 1 (data_keys rows)) (sym (right.read lists.made set.name)) (named_source sources sound set.name).fits)
      by_source (Some name) = fits name

  -- so that it may fold where it holds all lists that it reads
  pub own_may_fold : (values : Values) (outer : RowsByName) (old : Lists) → TakesIn outer old lists → SetsMayFold (rows_inside sources outer old) (set ∷ [])
      → MayFold (rows_begun sources given lists set) (transforms_of set)
  own_may_fold values outer old takes (products, fits, folds) =
      (begun_product products set, begun_fit products (λ name. own_fit values sources outer old lists takes name (products name) (fits name)), folds.0)

-- what a data set adds to what it holds it adds inside
pub adds_inside : (values : Values) (sources : List Named) (outer : RowsByName) (old own : Lists) (set : DataSet) (result : Result Lists EvalError)
    → TakesIn outer old own
    → IsHeldWhere own set.source → All (HoldsRead own) (transforms_of set)
    → HoldsAlso sources own result set.name (list_of values (map dataset_of sources) (scope_in sources own) set)
    → AddsList sources outer old result set.name (list_of values (map dataset_of sources) (scope_read (rows_inside sources outer old)) set)
adds_inside values sources outer old own set result takes source looked_up = by_result result
  where
    same : list_of values (map dataset_of sources) (scope_in sources own) set
        ≡ list_of values (map dataset_of sources) (scope_read (rows_inside sources outer old)) set
    same = own_reads values sources outer old own takes (map dataset_of sources) set source looked_up

    by_result : (result : Result Lists EvalError) → HoldsAlso sources own result set.name (list_of values (map dataset_of sources) (scope_in sources own) set)
        → AddsList sources outer old result set.name (list_of values (map dataset_of sources) (scope_read (rows_inside sources outer old)) set)
    by_result (Ok next) (rows, is, are, also, placed) = (
      rows,
      sym same ∙ is,
      are,
      λ other. named_also sources outer own next set.name rows also other ∙ ap (cond (bytes_eq set.name other) rows) (takes.same sources other),
      placed,
    )
    by_result (Err Overflow) e = sym same ∙ e
    by_result (Err Memory) e = tt

fits_either : (b : Bool) (p q : ℕ) (rows others : List Datum) → KeysFit p (data_keys rows)
    → KeysFit q (data_keys others) → KeysFit (cond b p q) (data_keys (cond b rows others))
fits_either true p q rows others x y = x
fits_either false p q rows others x y = y

rows_either : (b : Bool) (rows others : List Keyed) → AreRows rows → AreRows others → AreRows (cond b rows others)
rows_either true rows others x y = x
rows_either false rows others x y = y

read_either : (b : Bool) (rows others : List Keyed) → map datum_of (cond b rows others) ≡ cond b (map datum_of rows) (map datum_of others)
read_either true rows others = refl
read_either false rows others = refl

pub as_read : (products : Products) (rows : RowsByName) → AllKeysFit products rows
    → (name : List ℕ) → KeysFit (products name) (data_keys (scope_read rows name))
as_read products rows fits name = subst (KeysFit (products name)) (sym (keys_seen (rows name))) (fits name)

pub from_read : (products : Products) (rows : RowsByName)
    → ((name : List ℕ) → KeysFit (products name) (data_keys (scope_read rows name))) → AllKeysFit products rows
from_read products rows fits name = subst (KeysFit (products name)) (keys_seen (rows name)) (fits name)

module _ (values : Values) (sources : List Named) (sound : AreSources sources) where
  -- with the rows of a data set under its name
  one_set_fits : (set : DataSet) (scope : Scope) (rows : List Datum) (products : Products)
      → ((name : List ℕ) → KeysFit (products name) (data_keys (scope name)))
      → list_of values (map dataset_of sources) scope set ≡ Some rows
      → (name : List ℕ) → KeysFit (and_its_product products set name) (data_keys (with_list set.name rows scope name))
  one_set_fits set scope rows products fits e name =
      let product = fold_product (begun_product products set) (transforms_of set) in
      let made : KeysFit product (data_keys rows) =
      all_transformed_fits values scope (transforms_of set) (begun_rows (map dataset_of sources) scope set)
      rows (begun_product products set) e (begun set.source) in
      fits_either (bytes_eq set.name name) product (products name) rows (scope name) made (fits name)
    where
      begun : (o : Option (List ℕ)) → KeysFit (option_map_or products o 1) (data_keys (option_map_or scope o (list_named (map dataset_of sources) set.name)))
      begun None = (named_source sources sound set.name).fits
      begun (Some source) = fits source

  all_sets_fit : (sets : List DataSet) (scope out : Scope) (products : Products) → ((name : List ℕ) → KeysFit (products name) (data_keys (scope name)))
      → lists_of values (map dataset_of sources) scope sets ≡ Some out → (name : List ℕ) → KeysFit (products_after products sets name) (data_keys (out name))
  all_sets_fit [] scope out products fits e =
      subst (λ (s : Scope). (name : List ℕ) → KeysFit (products name) (data_keys (s name))) (same_value scope out e) fits
  all_sets_fit (set ∷ others) scope out products fits e =
      let (next, one, rest) = after_some (and_its_list values (map dataset_of sources) scope set)
      (λ s. lists_of values (map dataset_of sources) s others) out e in
      let (rows, own, is) = after_some (list_of values (map dataset_of sources) scope set) (λ rows. Some (with_list set.name rows scope)) next one in
      all_sets_fit others next out (and_its_product products set)
      (subst (λ (s : Scope). (name : List ℕ) → KeysFit (and_its_product products set name) (data_keys (s name)))
      (same_value (with_list set.name rows scope) next is)
      (one_set_fits set scope rows products fits own)) rest

-- what the data sets of an object give has keys such as the products after them allow
pub keys_of_sets : KeysOfSets
keys_of_sets values sources sets outer rows products sound fits gives =
    from_read (products_after products sets) rows
    (all_sets_fit values sources sound sets (scope_read outer) (scope_read rows) products (as_read products outer fits) gives)

pub folds_after : (values : Values) (sources : List Named) (outer : RowsByName) (sets : List DataSet) (result : Result Lists EvalError) → AreSources sources
    → GivesInside sources outer result (lists_of values (map dataset_of sources) (scope_read outer) sets)
    → (products : Products) → AllKeysFit products outer → IfOk result (λ lists. AllKeysFit (products_after products sets) (rows_inside sources outer lists))
folds_after values sources outer sets (Ok lists) sound gives products fits =
    keys_of_sets values sources sets outer (rows_inside sources outer lists) products sound fits gives
folds_after values sources outer sets (Err error) sound gives products fits = tt

-- what names stand for so far, and what they give with the data sets that are left
record SetsLeft (values : Values) (sources : List Named) (whole : Option Scope) (left : List DataSet) (rows : RowsByName) : Type 0 where
  pub gives : lists_of values (map dataset_of sources) (scope_read rows) left ≡ whole
  pub are : AreAllRows rows
  pub folds : SetsMayFold rows left

-- the same of lists, whose places are there
pub record ListsLeft (values : Values) (sources : List Named) (outer : RowsByName) (whole : Option Scope) (left : List DataSet) (lists : Lists) : Type 0 where
  pub gives : lists_of values (map dataset_of sources) (scope_read (rows_inside sources outer lists)) left ≡ whole
  pub are : AreAllRows (rows_inside sources outer lists)
  pub placed : ArePlaced lists
  pub folds : SetsMayFold (rows_inside sources outer lists) left

module _ (values : Values) (sources : List Named) (whole : Option Scope) (sound : AreSources sources) where
  named_more : (set : DataSet) (left : List DataSet) (rows next : RowsByName) (own : List Keyed) → SetsLeft values sources whole (set ∷ left) rows
      → list_of values (map dataset_of sources) (scope_read rows) set ≡ Some (map datum_of own) → AreRows own → IsNamed rows set.name own next
      → SetsLeft values sources whole left next
  named_more set left rows next own way e are named =
      let (products, fits, folds) = way.folds in
      let read = map datum_of own in
      let scope : scope_read next ≡ with_list set.name read (scope_read rows) =
      λ i other. (ap (map datum_of) (named other) ∙ read_either (bytes_eq set.name other) own (rows other)) i in
      record {
        gives = ap (λ s. lists_of values (map dataset_of sources) s left) scope
            ∙ sym (ap (λ o. (o >>= λ made. Some (with_list set.name made (scope_read rows))) >>= λ s. lists_of values (map dataset_of sources) s left)
            e) ∙ way.gives;
        are = λ other. subst AreRows (sym (named other)) (rows_either (bytes_eq set.name other) own (rows other) are (way.are other));
        folds = (
          and_its_product products set,
          from_read (and_its_product products set) next
              (subst (λ (s : Scope). (name : List ℕ) → KeysFit (and_its_product products set name) (data_keys (s name))) (sym scope)
              (one_set_fits values sources sound set (scope_read rows) read products (as_read products rows fits) e)),
          folds.1,
        );
      }

  module _ (outer : RowsByName) where
    set_more : (set : DataSet) (left : List DataSet) (lists next : Lists) → ListsLeft values sources outer whole (set ∷ left) lists
        → AddsList sources outer lists (Ok next) set.name (list_of values (map dataset_of sources) (scope_read (rows_inside sources outer lists)) set)
        → ListsLeft values sources outer whole left next
    set_more set left lists next way (own, e, are, named, placed) =
        let now : SetsLeft values sources whole (set ∷ left) (rows_inside sources outer lists) =
        record { gives = way.gives; are = way.are; folds = way.folds } in
        let more : SetsLeft values sources whole left (rows_inside sources outer next) =
        named_more set left (rows_inside sources outer lists) (rows_inside sources outer next) own now e are named in
        record { gives = more.gives; are = more.are; placed = placed; folds = more.folds }

    set_stops : (set : DataSet) (left : List DataSet) (lists : Lists) (error : EvalError) → ListsLeft values sources outer whole (set ∷ left) lists
        → AddsList sources outer lists (Err error) set.name (list_of values (map dataset_of sources) (scope_read (rows_inside sources outer lists)) set)
        → GivesInside sources outer (Err error) whole
    set_stops set left lists Overflow way e =
        let rows = rows_inside sources outer lists in
        sym way.gives ∙ ap (λ o. (o >>= λ made. Some (with_list set.name made (scope_read rows))) >>= λ s. lists_of values (map dataset_of sources) s left) e
    set_stops set left lists Memory way e = tt

    -- the same at a place in the list of data sets
    module _ (all : List DataSet) (i : ℕ) (set : DataSet) (lists : Lists) (lt : i < length all) (at : set ≡ get_or all i set)
        (way : ListsLeft values sources outer whole (drop i all) lists) where
      here : ListsLeft values sources outer whole (set ∷ drop (i + 1) all) lists
      here = subst (λ left. ListsLeft values sources outer whole left lists) (drop_more all i set lt ∙ ap (λ s. s ∷ drop (i + 1) all) (sym at)) way

      pub may_fold_at : SetsMayFold (rows_inside sources outer lists) (set ∷ [])
      may_fold_at = let (products, fits, folds) = here.folds in (products, fits, (folds.0, tt))

      pub set_more_at : (next : Lists)
          → AddsList sources outer lists (Ok next) set.name (list_of values (map dataset_of sources) (scope_read (rows_inside sources outer lists)) set)
          → ListsLeft values sources outer whole (drop (i + 1) all) next
      set_more_at next = set_more set (drop (i + 1) all) lists next here

      pub set_stops_at : (error : EvalError)
          → AddsList sources outer lists (Err error) set.name (list_of values (map dataset_of sources) (scope_read (rows_inside sources outer lists)) set)
          → GivesInside sources outer (Err error) whole
      set_stops_at error = set_stops set (drop (i + 1) all) lists error here

-- each data set passes
pub set_passes : (test : Transform → Bool) (all : List DataSet) (i : ℕ) (set : DataSet)
    → All (OfTransforms test) all → i < length all → set ≡ get_or all i set → OfTransforms test set
set_passes test all i set each lt at = subst (OfTransforms test) (sym at) (each i set lt)

-- where nothing is held
pub nothing_placed : (lists : Lists) → ((name : List ℕ) → tree.get_by_text lists.by_name name ≡ None) → ArePlaced lists
nothing_placed lists empty name = subst (λ (o : Option RowsIn). IsThere (length lists.made) (unwrap_or o Nothing)) (sym (empty name)) tt

-- where no name stands for a list
pub no_rows_are : AreAllRows no_rows
no_rows_are name = none_are

pub no_rows_fold : (sets : List DataSet) → FoldsFit no_folds sets → SetsMayFold no_rows sets
no_rows_fold sets folds = (no_folds, λ name. none_fit 1, folds)

pub gives_outermost : (sources : List Named) (result : Result Lists EvalError) (given : Option Scope)
    → GivesInside sources no_rows result given → GivesLists sources result given
gives_outermost sources (Ok lists) given gives = gives ∙ (λ i. Some (λ name. map datum_of (nothing_outside sources lists name i)))
gives_outermost sources (Err Overflow) given gives = gives
gives_outermost sources (Err Memory) given gives = tt

pub are_outermost : (sources : List Named) (result : Result Lists EvalError)
    → IfOk result (λ lists. AreAllRows (rows_inside sources no_rows lists)) → IfOk result (AreLists sources)
are_outermost sources (Ok lists) are = λ name. subst AreRows (nothing_outside sources lists name) (are name)
are_outermost sources (Err error) are = tt
