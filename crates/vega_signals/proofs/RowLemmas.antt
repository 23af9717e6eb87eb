-- Rows by the names of data sets.
use Rattle.std.proofs.Common.{◌≡◌, ℕ, Bool, true, false, cond, IsTrue, List, [], map, length, Option, Some, None, unwrap_or}
use Rattle.std.proofs.Common.{Result, Ok, Err, IfOk, refl, sym, ap, ◌∙◌, subst, rules}
use Rattle.std.specs.Option.{option_map_or}
use Rattle.std.specs.BTreeMap as tree
use Rattle.std.specs.Ordering.{nat_cmp}
use Rattle.std.specs.Cmp.Lexicographic.{slice_cmp}
use Rattle.std.specs.String.{string_cmp, string_bytes}
use Rattle.std.specs.Str.{bytes_eq}
use Rattle.std.proofs.lemmas.Map.Text.{btree_map_updates_text}
use Rattle.text_kit.specs.declared.memory.OutOfMemory.{OutOfMemory}
use Rattle.cell_value.specs.declared.state.Keyed.{Keyed}
use Rattle.cell_value.specs.declared.state.Named.{Named}
use Rattle.cell_value.specs.State.{dataset_of}
use Rattle.cell_value.specs.Datum.{Datum, datum_of}
use Rattle.expr_eval.specs.declared.error.EvalError.{EvalError}
use Rattle.expr_eval.specs.Values.{Values}
use Rattle.plain_rows.specs.declared.transforms.LookupOf.{LookupOf}
use Rattle.plain_rows.specs.Rows.{AreRows, AreKeys, keys_of}
use Rattle.plain_rows.specs.Answers.{GivesRows}
use Rattle.plain_rows.specs.Lookups.{data_looked_up}
use Rattle.vega_spec.specs.declared.data.DataSet.{DataSet}
use Rattle.vega_spec.specs.declared.groupings.Lookup.{Lookup}
use Rattle.vega_spec.specs.declared.transforms.Transform.{Transform}
use Rattle.vega_spec.specs.declared.transforms.Transform.TheVariants as vega
use Rattle.vega_lists.specs.Scopes.{Scope, with_list, list_named}
use Rattle.vega_lists.specs.Settings.{lookup_settings}
use Rattle.vega_lists.specs.Transforms.{is_kept, transformed}
use Rattle.vega_lists.specs.Products.{Products, KeysFit, begun_product}
use Rattle.vega_lists.specs.Lists.{begun_rows}
use Rattle.vega_lists.specs.Held.{scope_read, AreAllRows, AreSources}
use Rattle.vega_lists.proofs.KeyLemmas.{data_keys, keys_seen}
use Rattle.vega_lists.proofs.PlaceLemmas.{rows_as_read, rows_from_read}
use Rattle.vega_lists.proofs.OuterLemmas.{none_are}
use Rattle.vega_lists.proofs.ListLemmas.{named_source}
use Rattle.vega_signals.specs.Outer.{Listed}
use Rattle.vega_signals.specs.inner.Rows.{RowsByName, rows_of, scope_by, IsPut, lookup_in}

pick : (b : Bool) (rows other : List Keyed) (old : Option (List Keyed)) → unwrap_or (cond b (Some rows) old) other ≡ cond b rows (unwrap_or old other)
pick true rows other old = refl
pick false rows other old = refl

-- what an insertion puts
pub put_is : (bytes name : List ℕ) (old new : RowsByName) (rows : List Keyed) → bytes ≡ name
    → tree.UpdatesBy string_cmp (λ k. slice_cmp nat_cmp bytes (string_bytes k)) old new (Some rows) → IsPut old name rows new
put_is bytes name old new rows same h outer other =
    ap (λ o. unwrap_or o (outer other)) (btree_map_updates_text bytes old new (Some rows) h other)
    ∙ pick (bytes_eq bytes other) rows (outer other) (tree.get_by_text old other)
    ∙ ap (λ n. cond (bytes_eq n other) rows (rows_of outer old other)) same

seen_either : (b : Bool) (rows others : List Keyed) → map datum_of (cond b rows others) ≡ cond b (map datum_of rows) (map datum_of others)
seen_either true rows others = refl
seen_either false rows others = refl

rows_either : (b : Bool) (rows others : List Keyed) → AreRows rows → AreRows others → AreRows (cond b rows others)
rows_either true rows others x y = x
rows_either false rows others x y = y

-- a name put for rows stands for them
pub scope_of_put : (outer : Listed) (old new : RowsByName) (name : List ℕ) (rows : List Keyed) → IsPut old name rows new
    → scope_by outer new ≡ with_list name (map datum_of rows) (scope_by outer old)
scope_of_put outer old new name rows put = λ i other. at other i
  where
    at : (other : List ℕ) → scope_by outer new other ≡ with_list name (map datum_of rows) (scope_by outer old) other
    at other = ap (map datum_of) (put outer other) ∙ seen_either (bytes_eq name other) rows (rows_of outer old other)

pub rows_of_put : (outer : Listed) (old new : RowsByName) (name : List ℕ) (rows : List Keyed) → IsPut old name rows new → AreRows rows
    → AreAllRows (rows_of outer old) → AreAllRows (rows_of outer new)
rows_of_put outer old new name rows put are lists other =
    subst AreRows (sym (put outer other)) (rows_either (bytes_eq name other) rows (rows_of outer old other) are (lists other))

-- no rows are rows
pub no_rows : AreRows []
no_rows = none_are

pub none_are_rows : (rows : List Keyed) → rows ≡ [] → AreRows rows
none_are_rows rows e = subst AreRows (sym e) no_rows

-- where nothing is put, names stand for what they stand for round the object
pub scope_yet : (outer : Listed) (lists : RowsByName) → ((name : List ℕ) → rows_of outer lists name ≡ outer name) → scope_by outer lists ≡ scope_read outer
scope_yet outer lists e = λ i name. map datum_of (e name i)

pub rows_yet : (outer : Listed) (lists : RowsByName) → ((name : List ℕ) → rows_of outer lists name ≡ outer name)
    → AreAllRows outer → AreAllRows (rows_of outer lists)
rows_yet outer lists e are name = subst AreRows (sym (e name)) (are name)

module _ (sources : List Named) (sound : AreSources sources) (outer : Listed) (lists : RowsByName) (set : DataSet) where
  begun_keys : AreAllRows (rows_of outer lists) → AreKeys (data_keys (begun_rows (map dataset_of sources) (scope_by outer lists) set))
  begun_keys are = by_source set.source
    where
      by_source : (o : Option (List ℕ)) → AreKeys (data_keys (option_map_or (scope_by outer lists) o (list_named (map dataset_of sources) set.name)))
      by_source None = (named_source sources sound set.name).keys
      by_source (Some name) = rows_as_read (rows_of outer lists name) (are name)

  -- the rows with which a data set begins are rows
  pub begun_are_rows : AreAllRows (rows_of outer lists) → (result : Result (List Keyed) OutOfMemory)
      → IfOk result (λ rows. map datum_of rows ≡ begun_rows (map dataset_of sources) (scope_by outer lists) set) → IfOk result AreRows
  begun_are_rows are (Ok rows) e = rows_from_read rows _ e (begun_keys are)
  begun_are_rows are (Err refused) e = tt

  -- and their keys are such as its first product allows
  pub begun_fit : (products : Products) → ((name : List ℕ) → KeysFit (products name) (keys_of (rows_of outer lists name)))
      → KeysFit (begun_product products set) (data_keys (begun_rows (map dataset_of sources) (scope_by outer lists) set))
  begun_fit products fits = by_source set.source
    where
      by_source : (o : Option (List ℕ))
          → KeysFit (option_map_or products o 1) (data_keys (option_map_or (scope_by outer lists) o (list_named (map dataset_of sources) set.name)))
      by_source None = (named_source sources sound set.name).fits
      by_source (Some name) = subst (KeysFit (products name)) (sym (keys_seen (rows_of outer lists name))) (fits name)

-- a transform that is a lookup
pub is_lookup : (t : Transform) (l : Lookup) → Some l ≡ lookup_in t → t ≡ vega.Lookup l
is_lookup (vega.Lookup k) l e = ap (λ o. vega.Lookup (unwrap_or o l)) (sym e)
is_lookup (vega.Filter f) l e = absurd cc
is_lookup (vega.Formula f) l e = absurd cc
is_lookup (vega.Extent x) l e = absurd cc
is_lookup (vega.Bin b) l e = absurd cc
is_lookup (vega.TimeUnit t) l e = absurd cc
is_lookup (vega.Aggregate a) l e = absurd cc
is_lookup (vega.JoinAggregate a) l e = absurd cc
is_lookup (vega.Stack s) l e = absurd cc
is_lookup (vega.Window w) l e = absurd cc
is_lookup (vega.Fold f) l e = absurd cc

-- another transform reads no other lists
pub reads_no_lists : (values : Values) (a b : Scope) (t : Transform) (rows : List Datum)
    → None ≡ lookup_in t → transformed values a t rows ≡ transformed values b t rows
reads_no_lists values a b (vega.Lookup k) rows e = absurd cc
reads_no_lists values a b (vega.Filter f) rows e = refl
reads_no_lists values a b (vega.Formula f) rows e = refl
reads_no_lists values a b (vega.Extent x) rows e = refl
reads_no_lists values a b (vega.Bin x) rows e = refl
reads_no_lists values a b (vega.TimeUnit t) rows e = refl
reads_no_lists values a b (vega.Aggregate x) rows e = refl
reads_no_lists values a b (vega.JoinAggregate x) rows e = refl
reads_no_lists values a b (vega.Stack s) rows e = refl
reads_no_lists values a b (vega.Window w) rows e = refl
reads_no_lists values a b (vega.Fold f) rows e = refl

-- what such a transform makes of rows, whatever lists there are
pub reads_elsewhere : (values : Values) (a b : Scope) (t : Transform) (rows : List Datum) (result : Result (List Keyed) EvalError) → None ≡ lookup_in t
    → GivesRows result (transformed values a t rows) → GivesRows result (transformed values b t rows)
reads_elsewhere values a b t rows result none h = subst (GivesRows result) (reads_no_lists values a b t rows none) h

-- a lookup that breaks no rule has as many names as values
pub kept_names : (t : Transform) (l : Lookup) → Some l ≡ lookup_in t → IsTrue (is_kept t) → length (lookup_settings l).outs ≡ length l.values
kept_names t l e kept = names l (subst (λ x. IsTrue (is_kept x)) (is_lookup t l e) kept)
  where
    names : (k : Lookup) → IsTrue (is_kept (vega.Lookup k)) → length (lookup_settings k).outs ≡ length k.values
    names k h = search rules

-- what a lookup makes of rows
pub lookup_reads : (values : Values) (scope : Scope) (t : Transform) (l : Lookup) (rows out : List Datum) → Some l ≡ lookup_in t
    → out ≡ data_looked_up (lookup_settings l) (scope l.from) rows → transformed values scope t rows ≡ Some out
lookup_reads values scope t l rows out e is = ap (λ x. transformed values scope x rows) (is_lookup t l e) ∙ ap Some (sym is)

module _ (outer : Listed) (lists : RowsByName) (name from : List ℕ) (same : name ≡ from) where
  -- the rows that are put under a name
  pub put_there : (rows : List Keyed) → Some rows ≡ tree.get_by_text lists name → rows ≡ rows_of outer lists from
  put_there rows e = ap (λ o. unwrap_or o (outer name)) e ∙ ap (rows_of outer lists) same

  -- those for which it stands round the object, where none are put
  pub found_outside : None ≡ tree.get_by_text lists name → outer name ≡ rows_of outer lists from
  found_outside e = ap (λ o. unwrap_or o (outer name)) e ∙ ap (rows_of outer lists) same

-- a lookup in the rows for which a name stands
pub looked_up_there : (outer : Listed) (lists : RowsByName) (from : List ℕ) (settings : LookupOf) (other : List Keyed) (rows : List Datum)
    (result : Result (List Keyed) OutOfMemory) → other ≡ rows_of outer lists from
    → IfOk result (λ out. map datum_of out ≡ data_looked_up settings (map datum_of other) rows)
    → IfOk result (λ out. map datum_of out ≡ data_looked_up settings (scope_by outer lists from) rows)
looked_up_there outer lists from settings other rows result e h =
    subst (λ (o : List Keyed). IfOk result (λ out. map datum_of out ≡ data_looked_up settings (map datum_of o) rows)) e h
