-- Why lists that are made row by row have no other cells.
use Rattle.std.proofs.Common.{◌≡◌, ℕ, ◌&&◌, ◌||◌, not, Bool, true, false, cond, Option, Some, None, List, [], ◌∷◌, map, zip, refl, sym, ap, ap₂, ◌∙◌, subst}
use Rattle.std.specs.List.{list_all, list_any}
use Rattle.std.specs.Option.{option_map}
use Rattle.std.specs.Str.{bytes_eq}
use Rattle.std.proofs.lemmas.List.Elements.{All-nil, All-cons, All-weaker}
use Rattle.fixed_num.specs.Ranges.{all_found, ◌>>=◌}
use Rattle.cell_value.specs.declared.cell.Cell.{Cell}
use Rattle.cell_value.specs.Datum.{Datum, datum_with, id_name}
use Rattle.expr_syntax.specs.declared.expr.Expr.{Expr}
use Rattle.expr_eval.specs.Value.{value_of}
use Rattle.expr_eval.specs.Values.{Values}
use Rattle.plain_rows.specs.declared.transforms.LookupOf.{LookupOf}
use Rattle.plain_rows.specs.declared.transforms.OpOf.{OpOf}
use Rattle.plain_rows.specs.declared.transforms.WindowOf.{WindowOf}
use Rattle.plain_rows.specs.Calculations.{data_calculated}
use Rattle.plain_rows.specs.Lookups.{taken, taken_by, data_with_cells, data_looked_up, last_with}
use Rattle.plain_groups.proofs.PlaceLemmas.{same_itself}
use Rattle.plain_windows.specs.Windows.{window_of, view_of, window_cells, data_windowed}
use Rattle.plain_facets.specs.Facets.{key_of, is_key}
use Rattle.vega_spec.specs.declared.transforms.Transform.{Transform}
use Rattle.vega_spec.specs.declared.transforms.Transform.TheVariants as vega
use Rattle.vega_lists.specs.Operations.{window_settings}
use Rattle.vega_lists.specs.Scopes.{Scope}
use Rattle.vega_lists.specs.Settings.{lookup_settings}
use Rattle.vega_lists.specs.Transforms.{transformed, all_transformed}
use Rattle.compiled_rows.specs.Parts.{is_one_of, AreCovered}
use Rattle.compiled_rows.specs.Follows.{Follows, is_outside, leaves_cells, TransformsFollow, FollowersAreCovered}
use Rattle.compiled_rows.proofs.PartLemmas.{or_left, or_right}

pub both_of : (a b : Bool) → (a && b) ≡ true → (a ≡ true) × (b ≡ true)
both_of true b e = (refl, e)
both_of false b e = absurd (cc)

not_one : (b : Bool) → not b ≡ true → b ≡ false
not_one true e = absurd (cc)
not_one false e = refl

none_of : (a b : Bool) → (a || b) ≡ false → (a ≡ false) × (b ≡ false)
none_of true b e = absurd (cc)
none_of false b e = (refl, e)

-- what comes of two options, one after the other
pub drawn_both : {X : Type 0} (o : Option X) (rest : Option (List X)) (made : List X) → (o >>= λ x. rest >>= λ xs. Some (x ∷ xs)) ≡ Some made
    → (x : X) × (xs : List X) × (o ≡ Some x) × (rest ≡ Some xs) × (x ∷ xs ≡ made)
drawn_both None rest made e = absurd (cc)
drawn_both (Some x) None made e = absurd (cc)
drawn_both (Some x) (Some xs) made e = (x, xs, refl, refl, cc)

module _ (names : List (List ℕ)) where
  abbrev Same : Datum → Datum → Type 0
  Same row other = key_of names row ≡ key_of names other

  follows_itself : (rows : List Datum) → Follows names rows rows
  follows_itself [] = tt
  follows_itself (row ∷ rows) = (refl, follows_itself rows)

  follows_on : (a b c : List Datum) → Follows names a b → Follows names b c → Follows names a c
  follows_on [] [] [] h k = tt
  follows_on [] [] (z ∷ c) h k = absurd k
  follows_on [] (y ∷ b) c h k = absurd h
  follows_on (x ∷ a) [] c h k = absurd h
  follows_on (x ∷ a) (y ∷ b) [] h k = absurd k
  follows_on (x ∷ a) (y ∷ b) (z ∷ c) h k = (h.0 ∙ k.0, follows_on a b c h.1 k.1)

  each_follows : (f : Datum → Option Datum) → ((row made : Datum) → f row ≡ Some made → Same row made) → (rows made : List Datum)
      → all_found (map f rows) ≡ Some made → Follows names rows made
  each_follows f h [] [] e = tt
  each_follows f h [] (m ∷ made) e = absurd (cc)
  each_follows f h (row ∷ rows) made e =
      let (x, xs, first, others, is) = drawn_both (f row) (all_found (map f rows)) made e in
      subst (Follows names (row ∷ rows)) is (h row x first, each_follows f h rows xs others)

  all_follow : (f : Datum → Datum) → ((row : Datum) → Same row (f row)) → (rows : List Datum) → Follows names rows (map f rows)
  all_follow f h [] = tt
  all_follow f h (row ∷ rows) = (h row, all_follow f h rows)

  -- ---- cells under other names

  put_outside : (ns : List (List ℕ)) (out : List ℕ) (cell : Cell) (row : Datum) → is_one_of ns out ≡ false → key_of ns row ≡ key_of ns (datum_with out cell row)
  put_outside [] out cell row e = refl
  put_outside (n ∷ ns) out cell row e =
      let none = none_of (bytes_eq n out) (is_one_of ns out) e in
      ap₂ (λ c cs. c ∷ cs) (sym (ap (λ b. cond (b && not (bytes_eq n id_name)) cell (row.cell n)) none.0)) (put_outside ns out cell row none.1)

  abbrev pub Outside : List (List ℕ × Cell) → Type 0
  Outside cells = list_all (λ (c : List ℕ × Cell). is_outside names c.0) cells ≡ true

  pub all_put_outside : (cells : List (List ℕ × Cell)) (row : Datum) → Outside cells → Same row (data_with_cells row cells)
  all_put_outside [] row h = refl
  all_put_outside (c ∷ cells) row h =
      let both = both_of (is_outside names c.0) (list_all (λ (d : List ℕ × Cell). is_outside names d.0) cells) h in
      put_outside names c.0 c.1 row (not_one (is_one_of names c.0) both.0) ∙ all_put_outside cells (datum_with c.0 c.1 row) both.1

  -- ---- formulas

  calculated_follow : (o : Option Cell) (out : List ℕ) (row made : Datum) → is_one_of names out ≡ false
      → option_map (λ cell. datum_with out cell row) o ≡ Some made
      → Same row made
  calculated_follow None out row made h e = absurd (cc)
  calculated_follow (Some cell) out row made h e = let is : datum_with out cell row ≡ made = cc in subst (Same row) is (put_outside names out cell row h)

  formula_follows : (values : Values) (x : Expr) (out : List ℕ) (rows made : List Datum) → is_one_of names out ≡ false
      → data_calculated values x out rows ≡ Some made → Follows names rows made
  formula_follows values x out rows made h e =
      each_follows (λ (row : Datum). option_map (λ cell. datum_with out cell row) (value_of row.cell values x))
      (λ row m is. calculated_follow (value_of row.cell values x) out row m h is) rows made e

  -- ---- lookups

  zip_outside : (outs : List (List ℕ)) (cells : List Cell) → list_all (is_outside names) outs ≡ true → Outside (zip outs cells)
  zip_outside [] cells h = refl
  zip_outside (out ∷ outs) [] h = refl
  zip_outside (out ∷ outs) (c ∷ cells) h =
      let both = both_of (is_outside names out) (list_all (is_outside names) outs) h in
      ap₂ (λ a b. a && b) both.0 (zip_outside outs cells both.1)

  same_outside : (outs : List (List ℕ)) (c : Cell) → list_all (is_outside names) outs ≡ true → Outside (map (λ out. (out, c)) outs)
  same_outside [] c h = refl
  same_outside (out ∷ outs) c h =
      let both = both_of (is_outside names out) (list_all (is_outside names) outs) h in ap₂ (λ a b. a && b) both.0 (same_outside outs c both.1)

  taken_outside : (l : LookupOf) (o : Option Datum) → list_all (is_outside names) l.outs ≡ true → Outside (taken (λ (d : Datum). d.cell) l o)
  taken_outside l None h = same_outside l.outs l.otherwise h
  taken_outside l (Some row) h = zip_outside l.outs (map row.cell l.fields) h

  lookup_follows : (l : LookupOf) (other rows : List Datum) → list_all (is_outside names) l.outs ≡ true → Follows names rows (data_looked_up l other rows)
  lookup_follows l other rows h =
      all_follow (λ row. data_with_cells row (taken_by (λ (d : Datum). d.cell) l other row))
      (λ row. all_put_outside (taken_by (λ (d : Datum). d.cell) l other row) row
      (taken_outside l (last_with (λ (there : Datum). there.cell l.key_there) (row.cell l.key_here) other) h)) rows

  -- ---- windows

  pub op_outside : (o : Option Cell) (out : List ℕ) (c : List ℕ × Cell) → is_outside names out ≡ true → option_map (λ cell. (out, cell)) o ≡ Some c
      → is_outside names c.0 ≡ true
  op_outside None out c h e = absurd (cc)
  op_outside (Some cell) out c h e = let is : (out, cell) ≡ c = cc in subst (λ (d : List ℕ × Cell). is_outside names d.0 ≡ true) is h

  ops_outside : (given : OpOf × ℕ → Option Cell) (ops : List OpOf) (params : List ℕ) (cells : List (List ℕ × Cell))
      → list_all (is_outside names) (map (λ (op : OpOf). op.out) ops) ≡ true
      → all_found (map (λ (op : OpOf × ℕ). option_map (λ cell. (op.0.out, cell)) (given op)) (zip ops params)) ≡ Some cells → Outside cells
  ops_outside given [] params [] h e = refl
  ops_outside given [] params (c ∷ cells) h e = absurd (cc)
  ops_outside given (op ∷ ops) [] [] h e = refl
  ops_outside given (op ∷ ops) [] (c ∷ cells) h e = absurd (cc)
  ops_outside given (op ∷ ops) (n ∷ params) cells h e =
      let both = both_of (is_outside names op.out) (list_all (is_outside names) (map (λ (o : OpOf). o.out) ops)) h in
      let (x, xs, first, others, is) = drawn_both (option_map (λ cell. (op.out, cell)) (given (op, n)))
      (all_found (map (λ (op : OpOf × ℕ). option_map (λ cell. (op.0.out, cell)) (given op)) (zip ops params))) cells e in
      subst Outside is (ap₂ (λ a b. a && b) (op_outside (given (op, n)) op.out x both.0 first) (ops_outside given ops params xs both.1 others))

  windowed_follow : (o : Option (List (List ℕ × Cell))) (row made : Datum) → ((cells : List (List ℕ × Cell)) → o ≡ Some cells → Outside cells)
      → option_map (data_with_cells row) o ≡ Some made → Same row made
  windowed_follow None row made h e = absurd (cc)
  windowed_follow (Some cells) row made h e =
      let is : data_with_cells row cells ≡ made = cc in subst (Same row) is (all_put_outside cells row (h cells refl))

  window_follows : (w : WindowOf) (rows made : List Datum) → list_all (is_outside names) (map (λ (op : OpOf). op.out) w.ops) ≡ true
      → data_windowed w rows ≡ Some made → Follows names rows made
  window_follows w rows made h e =
      each_follows (λ row. option_map (data_with_cells row) (window_cells w rows row))
      (λ row m is. windowed_follow (window_cells w rows row) row m
      (λ cells found. ops_outside (λ (op : OpOf × ℕ). window_of op.0.op (view_of w rows row op.0 op.1)) w.ops w.params cells h found) is) rows made e

  -- ---- transforms

  one_out : (out : List ℕ) → list_all (is_outside names) (out ∷ []) ≡ true → is_one_of names out ≡ false
  one_out out e = not_one (is_one_of names out) (both_of (is_outside names out) true e).0

  made_is : (a b : List Datum) → Some a ≡ Some b → a ≡ b
  made_is a b e = cc

  module _ (values : Values) (scope : Scope) where
    pub transform_follows : (t : Transform) (rows made : List Datum) → leaves_cells names t ≡ true → transformed values scope t rows ≡ Some made
        → Follows names rows made
    transform_follows (vega.Filter f) rows made h e = absurd (cc)
    transform_follows (vega.Formula f) rows made h e = formula_follows values f.expr f.as_ rows made (one_out f.as_ h) e
    transform_follows (vega.Extent x) rows made h e = absurd (cc)
    transform_follows (vega.Bin b) rows made h e = absurd (cc)
    transform_follows (vega.TimeUnit t) rows made h e = absurd (cc)
    transform_follows (vega.Aggregate a) rows made h e = absurd (cc)
    transform_follows (vega.JoinAggregate a) rows made h e = absurd (cc)
    transform_follows (vega.Stack s) rows made h e = absurd (cc)
    transform_follows (vega.Window w) rows made h e = window_follows (window_settings w) rows made h e
    transform_follows (vega.Lookup l) rows made h e =
        subst (Follows names rows) (made_is (data_looked_up (lookup_settings l) (scope l.from) rows) made e)
        (lookup_follows (lookup_settings l) (scope l.from) rows h)
    transform_follows (vega.Fold f) rows made h e = absurd (cc)

    one_step : (t : Transform) (ts : List Transform) (rows made : List Datum) (o : Option (List Datum)) → transformed values scope t rows ≡ o
        → leaves_cells names t ≡ true → ((next : List Datum) → all_transformed values scope ts next ≡ Some made → Follows names next made)
        → (o >>= λ next. all_transformed values scope ts next) ≡ Some made → Follows names rows made
    one_step t ts rows made None is h rest e = absurd (cc)
    one_step t ts rows made (Some next) is h rest e = follows_on rows next made (transform_follows t rows next h is) (rest next e)

    all_of_them : (ts : List Transform) (rows made : List Datum) → list_all (leaves_cells names) ts ≡ true → all_transformed values scope ts rows ≡ Some made
        → Follows names rows made
    all_of_them [] rows made h e = subst (Follows names rows) (made_is rows made e) (follows_itself rows)
    all_of_them (t ∷ ts) rows made h e =
        let both = both_of (leaves_cells names t) (list_all (leaves_cells names) ts) h in
        one_step t ts rows made (transformed values scope t rows) refl both.0 (λ next k. all_of_them ts next made both.1 k) e

pub transforms_follow : TransformsFollow
transforms_follow values scope names ts rows made h e = all_of_them names values scope ts rows made h e

covered_more : (names : List (List ℕ)) (x : Datum) (rows made : List Datum) → AreCovered names rows made → AreCovered names (x ∷ rows) made
covered_more names x rows made h =
    All-weaker (λ row. list_any (λ other. is_key (key_of names other) (key_of names row)) rows ≡ true)
    (λ row. list_any (λ other. is_key (key_of names other) (key_of names row)) (x ∷ rows) ≡ true)
    (λ row e. or_right (is_key (key_of names x) (key_of names row)) (list_any (λ other. is_key (key_of names other) (key_of names row)) rows) e) made h

pub followers_are_covered : FollowersAreCovered
followers_are_covered names [] [] h = All-nil (λ row. list_any (λ other. is_key (key_of names other) (key_of names row)) [] ≡ true)
followers_are_covered names [] (m ∷ made) h = absurd h
followers_are_covered names (row ∷ rows) [] h = All-nil (λ r. list_any (λ other. is_key (key_of names other) (key_of names r)) (row ∷ rows) ≡ true)
followers_are_covered names (row ∷ rows) (m ∷ made) h =
    All-cons (λ r. list_any (λ other. is_key (key_of names other) (key_of names r)) (row ∷ rows) ≡ true) m made
    (or_left (is_key (key_of names row) (key_of names m)) (list_any (λ other. is_key (key_of names other) (key_of names m)) rows)
    (ap (λ k. is_key k (key_of names m)) h.0 ∙ same_itself (key_of names m)))
    (covered_more names row rows made (followers_are_covered names rows made h.1))
