-- Why transforms that drop rows, put cells under other names, or group by some fields add no cell in these.
use Rattle.std.proofs.Common.{◌≡◌, inl, inr, ⊎_elim, ◌&&◌, Bool, true, false, cond, ℕ, Option, Some, None, List, [], ◌∷◌, All, map, filter, unwrap_or, refl}
use Rattle.std.proofs.Common.{sym, subst}
use Rattle.std.specs.List.{list_all}
use Rattle.std.specs.Option.{option_map}
use Rattle.fixed_num.specs.Ranges.{all_found, ◌>>=◌}
use Rattle.cell_value.specs.declared.cell.Cell.{Cell}
use Rattle.cell_value.specs.Datum.{Datum, datum_with}
use Rattle.cell_value.specs.State.{ReadsItsId}
use Rattle.expr_eval.specs.Value.{truth_of, value_of}
use Rattle.expr_eval.specs.Values.{Values}
use Rattle.expr_syntax.specs.declared.expr.Expr.{Expr}
use Rattle.plain_rows.specs.declared.transforms.LookupOf.{LookupOf}
use Rattle.plain_rows.specs.declared.transforms.OpOf.{OpOf}
use Rattle.plain_rows.specs.declared.transforms.WindowOf.{WindowOf}
use Rattle.plain_rows.specs.Calculations.{data_calculated}
use Rattle.plain_rows.specs.Filters.{data_filtered}
use Rattle.plain_rows.specs.Lookups.{data_looked_up, data_with_cells, taken_by}
use Rattle.plain_groups.specs.Groups.{firsts}
use Rattle.plain_groups.specs.GroupRows.{data_aggregated}
use Rattle.plain_windows.specs.Windows.{window_cells, data_windowed}
use Rattle.vega_spec.specs.declared.transforms.Transform.{Transform}
use Rattle.vega_spec.specs.declared.transforms.Transform.TheVariants as vega
use Rattle.plain_rows.specs.declared.transforms.GroupOf.{GroupOf}
use Rattle.vega_lists.specs.Operations.{group_settings, window_settings}
use Rattle.vega_lists.specs.Scopes.{Scope}
use Rattle.vega_lists.specs.Settings.{lookup_settings}
use Rattle.vega_lists.specs.Transforms.{transformed, all_transformed}
use Rattle.compiled_rows.specs.Begun.{GroupsBy}
use Rattle.compiled_rows.specs.Follows.{is_outside, leaves_cells, adds_none, TransformsAddNone}
use Rattle.compiled_rows.specs.Parts.{is_one_of, AreCovered}
use Rattle.compiled_rows.proofs.BegunLemmas.{all_had, had, each_found, covered_by, covered_on, covers_itself, still_reads}
use Rattle.compiled_rows.proofs.BegunLemmas.{alike_rows, groups_read, has_first, row_is, row_of}
use Rattle.compiled_rows.proofs.FollowLemmas.{both_of, followers_are_covered, transform_follows}
use Rattle.compiled_rows.proofs.RisingLemmas.{Has}

-- ---- rows that read their ids

pub one_is : {X : Type 0} (a b : X) → Some a ≡ Some b → a ≡ b
one_is a b e = cc

calculated_reads : (o : Option Cell) (out : List ℕ) (row made : Datum) → ReadsItsId row → option_map (λ cell. datum_with out cell row) o ≡ Some made
    → ReadsItsId made
calculated_reads None out row made h e = absurd (cc)
calculated_reads (Some cell) out row made h e =
    subst ReadsItsId (one_is (datum_with out cell row) made e) (still_reads ((out, cell) ∷ []) row h)

pub windowed_reads : (o : Option (List (List ℕ × Cell))) (row made : Datum) → ReadsItsId row → option_map (data_with_cells row) o ≡ Some made → ReadsItsId made
windowed_reads None row made h e = absurd (cc)
windowed_reads (Some cells) row made h e = subst ReadsItsId (one_is (data_with_cells row cells) made e) (still_reads cells row h)

-- what is made of each row
pub all_made_read : (f : Datum → Option Datum) → ((row made : Datum) → ReadsItsId row → f row ≡ Some made → ReadsItsId made) → (rows made : List Datum)
    → All ReadsItsId rows → all_found (map f rows) ≡ Some made → All ReadsItsId made
all_made_read f each rows made ids e =
    all_had ReadsItsId made (λ m there.
    let (row, among, given) = each_found f rows made m e there in each row m (had ReadsItsId rows row ids among) given)

pub formula_reads : (values : Values) (x : Expr) (out : List ℕ) (rows made : List Datum) → All ReadsItsId rows → data_calculated values x out rows ≡ Some made
    → All ReadsItsId made
formula_reads values x out rows made ids e =
    all_made_read (λ (row : Datum). option_map (λ cell. datum_with out cell row) (value_of row.cell values x))
    (λ row m h is. calculated_reads (value_of row.cell values x) out row m h is) rows made ids e

pub window_reads : (w : WindowOf) (rows made : List Datum) → All ReadsItsId rows → data_windowed w rows ≡ Some made → All ReadsItsId made
window_reads w rows made ids e =
    all_made_read (λ row. option_map (data_with_cells row) (window_cells w rows row)) (λ row m h is. windowed_reads (window_cells w rows row) row m h is)
    rows made ids e

found_there : (f : Datum → Datum) (rows : List Datum) (z : Datum) → Has (map f rows) z → (row : Datum) × Has rows row × (f row ≡ z)
found_there f [] z h = absurd h
found_there f (x ∷ rows) z h =
    ⊎_elim (λ is. (x, inl refl, is)) (λ later. let (row, there, is) = found_there f rows z later in (row, inr there, is)) h

pub lookup_reads : (l : LookupOf) (other rows : List Datum) → All ReadsItsId rows → All ReadsItsId (data_looked_up l other rows)
lookup_reads l other rows ids =
    let given : Datum → Datum = λ row. data_with_cells row (taken_by (λ (d : Datum). d.cell) l other row) in
    all_had ReadsItsId (data_looked_up l other rows) (λ z there.
    let (row, among, is) = found_there given rows z there in
    subst ReadsItsId is (still_reads (taken_by (λ (d : Datum). d.cell) l other row) row (had ReadsItsId rows row ids among)))

-- ---- rows that are dropped

passed : (test : Datum → Bool) (rows : List Datum) (z : Datum) → Has (filter test rows) z → Has rows z
passed test [] z h = h
passed test (x ∷ rows) z h = by (test x) h (λ later. passed test rows z later)
  where
    by : (b : Bool) → Has (cond b (x ∷ filter test rows) (filter test rows)) z → (Has (filter test rows) z → Has rows z) → Has (x ∷ rows) z
    by true h on = ⊎_elim (λ is. inl is) (λ later. inr (on later)) h
    by false h on = inr (on h)

kept_are : (values : Values) (x : Expr) (rows made : List Datum) → data_filtered values x rows ≡ Some made
    → filter (λ (row : Datum). unwrap_or (truth_of row.cell values x) false) rows ≡ made
kept_are values x rows made e = by (all_found (map (λ (row : Datum). truth_of row.cell values x) rows)) e
  where
    kept : List Datum
    kept = filter (λ (row : Datum). unwrap_or (truth_of row.cell values x) false) rows

    by : (o : Option (List Bool)) → (o >>= λ _. Some kept) ≡ Some made → kept ≡ made
    by None e = absurd (cc)
    by (Some tests) e = one_is kept made e

-- ---- transforms

module _ (names : List (List ℕ)) where
  -- what a transform makes adds no cell, and reads its ids
  abbrev Adds : List Datum → List Datum → Type 0
  Adds rows made = AreCovered names rows made × All ReadsItsId made

  some_of : (rows made : List Datum) → ((z : Datum) → Has made z → Has rows z) → All ReadsItsId rows → Adds rows made
  some_of rows made h ids = (
    covered_by names rows made (λ row there. (row, h row there, refl)),
    all_had ReadsItsId made (λ z there. had ReadsItsId rows z ids (h z there)),
  )

  pub filter_adds : (values : Values) (x : Expr) (rows made : List Datum) → All ReadsItsId rows → data_filtered values x rows ≡ Some made → Adds rows made
  filter_adds values x rows made ids e =
      some_of rows made (λ z there. passed (λ (row : Datum). unwrap_or (truth_of row.cell values x) false) rows z
      (subst (λ l. Has l z) (sym (kept_are values x rows made e)) there)) ids

  group_adds : (g : GroupOf) → GroupsBy names g → (rows made : List Datum) → All ReadsItsId rows → data_aggregated g rows ≡ Some made → Adds rows made
  group_adds g groups rows made ids e = (
    covered_by names rows made (λ m there.
        let (first, among, given) = each_found (row_of names g groups rows) (firsts (alike_rows names g groups) rows) made m e there in
        let here = has_first names g groups [] rows first among in
        (first, here, sym (row_is names g groups rows made ids e first m here given).0)),
    groups_read names g groups rows made ids e,
  )

  grouped : (g : GroupOf) → (list_all (is_one_of g.groupby) names && list_all (is_outside names) (map (λ (op : OpOf). op.out) g.ops)) ≡ true → GroupsBy names g
  grouped g h =
      let both = both_of (list_all (is_one_of g.groupby) names) (list_all (is_outside names) (map (λ (op : OpOf). op.out) g.ops)) h in
      record { among = both.0; outs = both.1 }

  module _ (values : Values) (scope : Scope) where
    follows_adds : (t : Transform) (rows made : List Datum) → leaves_cells names t ≡ true → transformed values scope t rows ≡ Some made
        → AreCovered names rows made
    follows_adds t rows made h e = followers_are_covered names rows made (transform_follows names values scope t rows made h e)

    one_adds : (t : Transform) (rows made : List Datum) → adds_none names t ≡ true → All ReadsItsId rows → transformed values scope t rows ≡ Some made
        → Adds rows made
    one_adds (vega.Filter f) rows made h ids e = filter_adds values f.expr rows made ids e
    one_adds (vega.Formula f) rows made h ids e =
        (follows_adds (vega.Formula f) rows made h e, formula_reads values f.expr f.as_ rows made ids e)
    one_adds (vega.Extent x) rows made h ids e = absurd (cc)
    one_adds (vega.Bin b) rows made h ids e = absurd (cc)
    one_adds (vega.TimeUnit t) rows made h ids e = absurd (cc)
    one_adds (vega.Aggregate a) rows made h ids e = group_adds (group_settings a) (grouped (group_settings a) h) rows made ids e
    one_adds (vega.JoinAggregate a) rows made h ids e = absurd (cc)
    one_adds (vega.Stack s) rows made h ids e = absurd (cc)
    one_adds (vega.Window w) rows made h ids e = (follows_adds (vega.Window w) rows made h e, window_reads (window_settings w) rows made ids e)
    one_adds (vega.Lookup l) rows made h ids e = (
      follows_adds (vega.Lookup l) rows made h e,
      subst (All ReadsItsId) (one_is (data_looked_up (lookup_settings l) (scope l.from) rows) made e)
          (lookup_reads (lookup_settings l) (scope l.from) rows ids),
    )
    one_adds (vega.Fold f) rows made h ids e = absurd (cc)

    and_others : (t : Transform) (ts : List Transform) (rows made : List Datum) (o : Option (List Datum)) → transformed values scope t rows ≡ o
        → adds_none names t ≡ true → All ReadsItsId rows
        → ((next : List Datum) → All ReadsItsId next → all_transformed values scope ts next ≡ Some made → AreCovered names next made)
        → (o >>= λ next. all_transformed values scope ts next) ≡ Some made → AreCovered names rows made
    and_others t ts rows made None is h ids rest e = absurd (cc)
    and_others t ts rows made (Some next) is h ids rest e =
        let both = one_adds t rows next h ids is in covered_on names rows next made both.0 (rest next both.1 e)

    all_add : (ts : List Transform) (rows made : List Datum) → list_all (adds_none names) ts ≡ true → All ReadsItsId rows
        → all_transformed values scope ts rows ≡ Some made → AreCovered names rows made
    all_add [] rows made h ids e = subst (AreCovered names rows) (one_is rows made e) (covers_itself names rows)
    all_add (t ∷ ts) rows made h ids e =
        let both = both_of (adds_none names t) (list_all (adds_none names) ts) h in
        and_others t ts rows made (transformed values scope t rows) refl both.0 ids (λ next read k. all_add ts next made both.1 read k) e

pub transforms_add_none : TransformsAddNone
transforms_add_none values scope names ts rows made h ids e = all_add names values scope ts rows made h ids e
