-- Why rows before an aggregate have no cells that those behind it lack.
use Rattle.std.proofs.Common.{◌≡◌, ◌⊎◌, inl, inr, ⊎_elim, ℕ, ◌*◌, ◌&&◌, ◌||◌, not, Bool, true, false, cond, Option, Some, None, List, [], ◌∷◌, ◌++◌, map, All}
use Rattle.std.proofs.Common.{refl, sym, ap, ap₂, ◌∙◌, subst, pos}
use Rattle.std.specs.List.{list_all, list_any}
use Rattle.std.specs.Option.{option_map}
use Rattle.std.specs.Str.{bytes_eq}
use Rattle.std.proofs.lemmas.List.Elements.{All-nil, All-cons, All-head, All-tail}
use Rattle.std.proofs.lemmas.Slice.Eq.{bytes_eq-Decides}
use Rattle.fixed_num.specs.Number.{million}
use Rattle.fixed_num.specs.Ranges.{all_found, ◌>>=◌}
use Rattle.cell_value.specs.declared.cell.Cell.{Cell}
use Rattle.cell_value.specs.declared.cell.Cell.TheVariants.{Null, Number}
use Rattle.cell_value.specs.declared.state.Key.{Key}
use Rattle.cell_value.specs.Datum.{CellAt, Datum, datum_with, id_name}
use Rattle.cell_value.specs.State.{Dataset, ReadsItsId}
use Rattle.expr_eval.specs.Values.{Values}
use Rattle.plain_rows.specs.declared.transforms.GroupOf.{GroupOf}
use Rattle.plain_rows.specs.declared.transforms.OpOf.{OpOf}
use Rattle.plain_rows.specs.declared.transforms.StackOf.{StackOf}
use Rattle.plain_rows.specs.Lookups.{data_with_cells}
use Rattle.plain_groups.specs.Groups.{alike, firsts_behind, firsts, group_of}
use Rattle.plain_groups.specs.GroupRows.{op_cell, op_cells, field_cells, bare_datum, data_group_row, data_aggregated}
use Rattle.plain_groups.proofs.PlaceLemmas.{same_are_equal, same_itself, alike_keys}
use Rattle.compiled_rows.proofs.ChoiceLemmas.{one_cell}
use Rattle.plain_stacks.specs.Stacks.{greatest_whole, row_span_with, span_cells, data_stacked}
use Rattle.plain_facets.specs.Facets.{key_of, is_key}
use Rattle.plan_kit.specs.declared.steps.Step.{Step}
use Rattle.plan_kit.specs.declared.steps.Step.TheVariants as step
use Rattle.chart_meaning.specs.Rows.{stepped, all_stepped}
use Rattle.compiled_rows.specs.Follows.{is_outside}
use Rattle.compiled_rows.specs.Parts.{is_one_of, AreCovered}
use Rattle.compiled_rows.specs.Begun.{GroupsBy, KeepsCells, StepsCover}
use Rattle.compiled_rows.proofs.PartLemmas.{by_cases, or_left, or_right, or_either, any_either}
use Rattle.compiled_rows.proofs.RisingLemmas.{Has}
use Rattle.compiled_rows.proofs.FollowLemmas.{both_of, drawn_both, Outside, all_put_outside, op_outside}

pub all_had : {X : Type 0} (P : X → Type 0) (xs : List X) → ((z : X) → Has xs z → P z) → All P xs
all_had P [] h = All-nil P
all_had P (x ∷ xs) h = All-cons P x xs (h x (inl refl)) (all_had P xs (λ z there. h z (inr there)))

pub had : {X : Type 0} (P : X → Type 0) (xs : List X) (z : X) → All P xs → Has xs z → P z
had P [] z h there = absurd there
had P (x ∷ xs) z h there = ⊎_elim (λ is. subst P is (All-head P x xs h)) (λ later. had P xs z (All-tail P x xs h) later) there

true_or_not : (a b : Bool) → a ≡ true → a ≡ false → b ≡ true
true_or_not true b e h = absurd (cc)
true_or_not false b e h = absurd (cc)

-- what each of a list gives is among what all give
found_each : {X : Type 0} (f : X → Option Datum) (xs : List X) (made : List Datum) (x : X) → all_found (map f xs) ≡ Some made → Has xs x
    → (m : Datum) × Has made m × (f x ≡ Some m)
found_each f [] made x e h = absurd h
found_each f (y ∷ ys) made x e h =
    let (m, ms, first, others, is) = drawn_both (f y) (all_found (map f ys)) made e in
    ⊎_elim
    (λ same. (m, subst (λ l. Has l m) is (inl refl), ap f (sym same) ∙ first))
    (λ later. let (n, there, given) = found_each f ys ms x others later in (n, subst (λ l. Has l n) is (inr there), given)) h

-- and each of these is given by one
pub each_found : {X : Type 0} (f : X → Option Datum) (xs : List X) (made : List Datum) (m : Datum) → all_found (map f xs) ≡ Some made → Has made m
    → (x : X) × Has xs x × (f x ≡ Some m)
each_found f [] [] m e h = absurd h
each_found f [] (n ∷ made) m e h = absurd (cc)
each_found f (y ∷ ys) made m e h =
    let (n, ns, first, others, is) = drawn_both (f y) (all_found (map f ys)) made e in
    ⊎_elim
    (λ same. (y, inl refl, first ∙ ap Some same))
    (λ later. let (x, there, given) = each_found f ys ns m others later in (x, inr there, given))
    (subst (λ l. Has l m) (sym is) h)

module _ (names : List (List ℕ)) where
  -- a row that covers
  any_has : (by : List Datum) (k : List Cell) → list_any (λ other. is_key (key_of names other) k) by ≡ true → (o : Datum) × Has by o × (key_of names o ≡ k)
  any_has [] k e = absurd (cc)
  any_has (x ∷ by) k e =
      or_either (is_key (key_of names x) k) (list_any (λ other. is_key (key_of names other) k) by) e
      (λ here. (x, inl refl, same_are_equal (key_of names x) k here))
      (λ later. let (o, there, is) = any_has by k later in (o, inr there, is))

  has_any : (by : List Datum) (o : Datum) (k : List Cell) → Has by o → key_of names o ≡ k → list_any (λ other. is_key (key_of names other) k) by ≡ true
  has_any [] o k h e = absurd h
  has_any (x ∷ by) o k h e =
      ⊎_elim
      (λ same. or_left (is_key (key_of names x) k) (list_any (λ other. is_key (key_of names other) k) by)
      (ap (λ l. is_key l k) (ap (key_of names) same ∙ e) ∙ same_itself k))
      (λ later. or_right (is_key (key_of names x) k) (list_any (λ other. is_key (key_of names other) k) by) (has_any by o k later e)) h

  pub covered_by : (by rows : List Datum) → ((row : Datum) → Has rows row → (o : Datum) × Has by o × (key_of names o ≡ key_of names row))
      → AreCovered names by rows
  covered_by by rows h =
      all_had (λ row. list_any (λ other. is_key (key_of names other) (key_of names row)) by ≡ true) rows
      (λ row there. let (o, among, is) = h row there in has_any by o (key_of names row) among is)

  covers : (by rows : List Datum) → AreCovered names by rows → (row : Datum) → Has rows row → (o : Datum) × Has by o × (key_of names o ≡ key_of names row)
  covers by rows h row there =
      any_has by (key_of names row) (had (λ row. list_any (λ other. is_key (key_of names other) (key_of names row)) by ≡ true) rows row h there)

  pub covered_on : (a b c : List Datum) → AreCovered names a b → AreCovered names b c → AreCovered names a c
  covered_on a b c h k =
      covered_by a c (λ row there.
      let (m, among, is) = covers b c k row there in let (o, first, same) = covers a b h m among in (o, first, same ∙ is))

  pub covers_itself : (rows : List Datum) → AreCovered names rows rows
  covers_itself rows = covered_by rows rows (λ row there. (row, there, refl))

-- ---- ids

id_stays : (cells : List (List ℕ × Cell)) (row : Datum) → (data_with_cells row cells).cell id_name ≡ row.cell id_name
id_stays [] row = refl
id_stays (c ∷ cells) row =
    id_stays cells (datum_with c.0 c.1 row)
    ∙ ap (λ b. cond b c.1 (row.cell id_name)) (never_id (bytes_eq id_name c.0) (bytes_eq id_name id_name) ((bytes_eq-Decides id_name id_name).1 refl))
  where
    never_id : (a b : Bool) → b ≡ true → (a && not b) ≡ false
    never_id true true e = refl
    never_id false true e = refl
    never_id true false e = absurd (cc)
    never_id false false e = absurd (cc)

key_stays : (cells : List (List ℕ × Cell)) (row : Datum) → (data_with_cells row cells).key ≡ row.key
key_stays [] row = refl
key_stays (c ∷ cells) row = key_stays cells (datum_with c.0 c.1 row)

id_of : Key → Cell
id_of key = Number (pos (key.id * million))

pub still_reads : (cells : List (List ℕ × Cell)) (row : Datum) → ReadsItsId row → ReadsItsId (data_with_cells row cells)
still_reads cells row h = id_stays cells row ∙ h ∙ ap (λ (key : Key). Number (pos (key.id * million))) (sym (key_stays cells row))

bare_reads : (key : Key) → ReadsItsId (bare_datum key)
bare_reads key = ap (λ b. cond b (Number (pos (key.id * million))) Null) ((bytes_eq-Decides id_name id_name).1 refl)

with_both : (xs ys : List (List ℕ × Cell)) (row : Datum) → data_with_cells row (xs ++ ys) ≡ data_with_cells (data_with_cells row xs) ys
with_both [] ys row = refl
with_both (x ∷ xs) ys row = with_both xs ys (datum_with x.0 x.1 row)

-- ---- the row of a group

module _ (c : CellAt) (name : List ℕ) where
  put_keeps : (n : List ℕ) (row : Datum) → row.cell name ≡ c name → (datum_with n (c n) row).cell name ≡ c name
  put_keeps n row h = by (bytes_eq name n) refl
    where
      inner : (b : Bool) → c n ≡ c name → cond b (c n) (row.cell name) ≡ c name
      inner true e = e
      inner false e = h

      by : (t : Bool) → bytes_eq name n ≡ t → cond (t && not (bytes_eq name id_name)) (c n) (row.cell name) ≡ c name
      by true e = inner (not (bytes_eq name id_name)) (ap c (sym ((bytes_eq-Decides name n).0 e)))
      by false e = h

  fields_keep : (fields : List (List ℕ)) (row : Datum) → row.cell name ≡ c name → (data_with_cells row (field_cells c fields)).cell name ≡ c name
  fields_keep [] row h = h
  fields_keep (n ∷ fields) row h = fields_keep fields (datum_with n (c n) row) (put_keeps n row h)

  field_put : (fields : List (List ℕ)) (row : Datum) → bytes_eq name id_name ≡ false → is_one_of fields name ≡ true
      → (data_with_cells row (field_cells c fields)).cell name ≡ c name
  field_put [] row other e = absurd (cc)
  field_put (n ∷ fields) row other e =
      or_either (bytes_eq n name) (is_one_of fields name) e
      (λ here. let is : n ≡ name = (bytes_eq-Decides n name).0 here in
      fields_keep fields (datum_with n (c n) row)
      (ap (λ b. cond (b && not (bytes_eq name id_name)) (c n) (row.cell name)) ((bytes_eq-Decides name n).1 (sym is))
      ∙ ap (λ b. cond (not b) (c n) (row.cell name)) other ∙ ap c is))
      (λ later. field_put fields (datum_with n (c n) row) other later)

fields_read : (fields : List (List ℕ)) (first : Datum) (name : List ℕ) → ReadsItsId first → is_one_of fields name ≡ true
    → (data_with_cells (bare_datum first.key) (field_cells first.cell fields)).cell name ≡ first.cell name
fields_read fields first name h among =
    by_cases (bytes_eq name id_name)
    (λ e. let is : name ≡ id_name = (bytes_eq-Decides name id_name).0 e in
    fields_keep first.cell name fields (bare_datum first.key)
    (ap (λ n. (bare_datum first.key).cell n) is ∙ bare_reads first.key ∙ sym h ∙ ap first.cell (sym is)))
    (λ e. field_put first.cell name fields (bare_datum first.key) e among)

all_read : (fields : List (List ℕ)) (first : Datum) (names : List (List ℕ)) → ReadsItsId first → list_all (is_one_of fields) names ≡ true
    → key_of names (data_with_cells (bare_datum first.key) (field_cells first.cell fields)) ≡ key_of names first
all_read fields first [] h e = refl
all_read fields first (n ∷ names) h e =
    let both = both_of (is_one_of fields n) (list_all (is_one_of fields) names) e in
    ap₂ (λ a b. a ∷ b) (fields_read fields first n h both.0) (all_read fields first names h both.1)

module _ (names : List (List ℕ)) (g : GroupOf) (groups : GroupsBy names g) where
  abbrev cells : Datum → CellAt
  cells row = row.cell

  abbrev pub alike_rows : Datum → Datum → Bool
  alike_rows = alike cells g.groupby

  given_outside : (ops : List OpOf) (group : List Datum) (given : List (List ℕ × Cell)) → list_all (is_outside names) (map (λ (op : OpOf). op.out) ops) ≡ true
      → op_cells cells ops group ≡ Some given → Outside names given
  given_outside [] group [] h e = refl
  given_outside [] group (x ∷ given) h e = absurd (cc)
  given_outside (op ∷ ops) group given h e =
      let both = both_of (is_outside names op.out) (list_all (is_outside names) (map (λ (o : OpOf). o.out) ops)) h in
      let (x, xs, first, others, is) = drawn_both (op_cell cells group op) (op_cells cells ops group) given e in
      subst (Outside names) is (ap₂ (λ a b. a && b) (op_outside names _ op.out x both.0 first) (given_outside ops group xs both.1 others))

  group_row_reads : (first m : Datum) (o : Option (List (List ℕ × Cell))) → ReadsItsId first
      → ((given : List (List ℕ × Cell)) → o ≡ Some given → Outside names given)
      → option_map (data_group_row g first) o ≡ Some m → (key_of names m ≡ key_of names first) × ReadsItsId m
  group_row_reads first m None h outside e = absurd (cc)
  group_row_reads first m (Some given) h outside e =
      let is : data_group_row g first given ≡ m = cc in
      let fields = field_cells first.cell g.groupby in
      let begun = data_with_cells (bare_datum first.key) fields in
      let whole : data_group_row g first given ≡ data_with_cells begun given = with_both fields given (bare_datum first.key) in (
        ap (key_of names) (sym is ∙ whole) ∙ sym (all_put_outside names given begun (outside given refl)) ∙ all_read g.groupby first names h groups.among,
        subst ReadsItsId (sym whole ∙ is) (still_reads given begun (still_reads fields (bare_datum first.key) (bare_reads first.key))),
      )

  -- ---- first rows

  like_key : (x y : Datum) → alike_rows x y ≡ true → key_of g.groupby x ≡ key_of g.groupby y
  like_key x y e = same_are_equal (key_of g.groupby x) (key_of g.groupby y) (alike_keys cells g.groupby x y ∙ e)

  abbrev seen : List Datum → Datum → Bool
  seen before r = list_any (λ y. alike_rows y r) before

  seen_alike : (before : List Datum) (x r : Datum) → key_of g.groupby x ≡ key_of g.groupby r → seen before x ≡ seen before r
  seen_alike [] x r e = refl
  seen_alike (b ∷ before) x r e =
      ap₂ (λ p q. p || q)
      (sym (alike_keys cells g.groupby b x) ∙ ap (λ k. is_key (key_of g.groupby b) k) e ∙ alike_keys cells g.groupby b r) (seen_alike before x r e)

  abbrev FirstOf : List Datum → Datum → Type 0
  FirstOf found r = (f : Datum) × Has found f × (key_of g.groupby f ≡ key_of g.groupby r)

  here_or_behind : (x : Datum) (later : List Datum) (f : Datum) (b : Bool) → Has later f → Has (cond b later (x ∷ later)) f
  here_or_behind x later f true h = h
  here_or_behind x later f false h = inr h

  -- a row and one with its key before which none with it stands
  begins : (before xs : List Datum) (x r : Datum) (later : List Datum) → key_of g.groupby x ≡ key_of g.groupby r
      → (seen before r ≡ true) ⊎ FirstOf (cond (seen before x) later (x ∷ later)) r
  begins before xs x r later e =
      by_cases (seen before x)
      (λ is. inl (sym (seen_alike before x r e) ∙ is))
      (λ is. inr (x, subst (λ b. Has (cond b later (x ∷ later)) x) (sym is) (inl refl), e))

  first_like : (before xs : List Datum) (r : Datum) → Has xs r → (seen before r ≡ true) ⊎ FirstOf (firsts_behind alike_rows before xs) r
  first_like before [] r h = absurd h
  first_like before (x ∷ xs) r h =
      let later = firsts_behind alike_rows (before ++ x ∷ []) xs in
      ⊎_elim
      (λ same. begins before xs x r later (ap (key_of g.groupby) same))
      (λ there. ⊎_elim
      (λ any. any_either (λ y. alike_rows y r) before (x ∷ []) any (λ k. inl k)
      (λ k. begins before xs x r later (like_key x r (or_either (alike_rows x r) false k (λ e. e) (λ none. true_or_not false (alike_rows x r) none refl)))))
      (λ found. let (f, among, is) = found in inr (f, here_or_behind x later f (seen before x) among, is))
      (first_like (before ++ x ∷ []) xs r there)) h

  pub has_first : (before xs : List Datum) (z : Datum) → Has (firsts_behind alike_rows before xs) z → Has xs z
  has_first before [] z h = h
  has_first before (x ∷ xs) z h = by (seen before x) h (has_first (before ++ x ∷ []) xs z)
    where
      by : (b : Bool) → Has (cond b (firsts_behind alike_rows (before ++ x ∷ []) xs) (x ∷ firsts_behind alike_rows (before ++ x ∷ []) xs)) z
          → (Has (firsts_behind alike_rows (before ++ x ∷ []) xs) z → Has xs z) → Has (x ∷ xs) z
      by true h later = inr (later h)
      by false h later = ⊎_elim (λ is. inl is) (λ k. inr (later k)) h

  -- the names are among those by which the group is made
  some_keys : (ns : List (List ℕ)) (x y : Datum) → list_all (is_one_of g.groupby) ns ≡ true → key_of g.groupby x ≡ key_of g.groupby y
      → key_of ns x ≡ key_of ns y
  some_keys [] x y h e = refl
  some_keys (n ∷ ns) x y h e =
      let both = both_of (is_one_of g.groupby n) (list_all (is_one_of g.groupby) ns) h in
      ap₂ (λ a b. a ∷ b) (one_cell g.groupby n x.cell y.cell both.0 e) (some_keys ns x y both.1 e)

  abbrev pub row_of : List Datum → Datum → Option Datum
  row_of rows first = option_map (data_group_row g first) (op_cells cells g.ops (group_of cells g.groupby rows first))

  module _ (rows made : List Datum) (ids : All ReadsItsId rows) (e : data_aggregated g rows ≡ Some made) where
    pub row_is : (first m : Datum) → Has rows first → row_of rows first ≡ Some m → (key_of names m ≡ key_of names first) × ReadsItsId m
    row_is first m there given =
        group_row_reads first m (op_cells cells g.ops (group_of cells g.groupby rows first)) (had ReadsItsId rows first ids there)
        (λ cs is. given_outside g.ops (group_of cells g.groupby rows first) cs groups.outs is) given

    groups_cover : AreCovered names made rows
    groups_cover =
        covered_by names made rows (λ r there.
        ⊎_elim (λ none. absurd (never none)) (λ found.
        let (f, among, same) = found in
        let (m, placed, given) = found_each (row_of rows) (firsts alike_rows rows) made f e among in
        (m, placed, (row_is f m (has_first [] rows f among) given).0 ∙ some_keys names f r groups.among same))
        (first_like [] rows r there))
      where
        never : false ≡ true → ⊥
        never n = cc

    pub groups_read : All ReadsItsId made
    groups_read =
        all_had ReadsItsId made (λ m there.
        let (f, among, given) = each_found (row_of rows) (firsts alike_rows rows) made m e there in (row_is f m (has_first [] rows f among) given).1)

-- ---- stacks

-- a row with cells under other names
row_with : {A : Type 0} (names : List (List ℕ)) (cells_of : A → List (List ℕ × Cell)) → ((a : A) → Outside names (cells_of a)) → (o : Option A) (row m : Datum)
    → ReadsItsId row → option_map (λ a. data_with_cells row (cells_of a)) o ≡ Some m → (key_of names m ≡ key_of names row) × ReadsItsId m
row_with names cells_of outside None row m h e = absurd (cc)
row_with names cells_of outside (Some a) row m h e =
    let is : data_with_cells row (cells_of a) ≡ m = cc in
    (ap (key_of names) (sym is) ∙ sym (all_put_outside names (cells_of a) row (outside a)), subst ReadsItsId is (still_reads (cells_of a) row h))

module _ (names : List (List ℕ)) (s : StackOf) (outs : list_all (is_outside names) (s.out ∷ s.out_end ∷ []) ≡ true) where
  module _ (rows made : List Datum) (ids : All ReadsItsId rows) (e : data_stacked s rows ≡ Some made) where
    abbrev stacked_row : Datum → Option Datum
    stacked_row row = option_map (λ span. data_with_cells row (span_cells s span)) (row_span_with s (greatest_whole s rows) rows row)

    stack_covers : AreCovered names made rows
    stack_covers =
        covered_by names made rows (λ r there.
        let (m, placed, given) = found_each stacked_row rows made r e there in (
          m,
          placed,
          (row_with names (span_cells s) (λ span. outs) (row_span_with s (greatest_whole s rows) rows r) r m (had ReadsItsId rows r ids there)
              given).0,
        ))

    pub stack_reads : All ReadsItsId made
    stack_reads =
        all_had ReadsItsId made (λ m there.
        let (r, among, given) = each_found stacked_row rows made m e there in
        (row_with names (span_cells s) (λ span. outs) (row_span_with s (greatest_whole s rows) rows r) r m (had ReadsItsId rows r ids among) given).1)

-- ---- steps

module _ (values : Values) (sources : List Dataset) (names : List (List ℕ)) where
  one_covers : (s : Step) (rows made : List Datum) → KeepsCells names s → All ReadsItsId rows → stepped values sources s rows ≡ Some made
      → AreCovered names made rows × All ReadsItsId made
  one_covers (step.Filter x) rows made h ids e = absurd h
  one_covers (step.Calculate x name) rows made h ids e = absurd h
  one_covers (step.Bin bin) rows made h ids e = absurd h
  one_covers (step.Unit unit) rows made h ids e = absurd h
  one_covers (step.Group g) rows made h ids e = (groups_cover names g h rows made ids e, groups_read names g h rows made ids e)
  one_covers (step.Join g) rows made h ids e = absurd h
  one_covers (step.Stack s) rows made h ids e = (stack_covers names s h rows made ids e, stack_reads names s h rows made ids e)
  one_covers (step.Window window) rows made h ids e = absurd h
  one_covers (step.Lookup source lookup) rows made h ids e = absurd h
  one_covers (step.Fold fold) rows made h ids e = absurd h

  and_others : (s : Step) (steps : List Step) (rows made : List Datum) (o : Option (List Datum)) → stepped values sources s rows ≡ o → KeepsCells names s
      → All ReadsItsId rows → ((next : List Datum) → All ReadsItsId next → all_stepped values sources steps next ≡ Some made → AreCovered names made next)
      → (o >>= λ next. all_stepped values sources steps next) ≡ Some made → AreCovered names made rows
  and_others s steps rows made None is h ids rest e = absurd (cc)
  and_others s steps rows made (Some next) is h ids rest e =
      let both = one_covers s rows next h ids is in covered_on names made next rows (rest next both.1 e) both.0

  all_cover : (steps : List Step) (rows made : List Datum) → All (KeepsCells names) steps → All ReadsItsId rows
      → all_stepped values sources steps rows ≡ Some made
      → AreCovered names made rows
  all_cover [] rows made h ids e = let is : rows ≡ made = cc in subst (λ l. AreCovered names l rows) is (covers_itself names rows)
  all_cover (s ∷ steps) rows made h ids e =
      and_others s steps rows made (stepped values sources s rows) refl (All-head (KeepsCells names) s steps h) ids
      (λ next reads k. all_cover steps next made (All-tail (KeepsCells names) s steps h) reads k) e

pub steps_cover : StepsCover
steps_cover values sources names steps rows made h ids e = all_cover values sources names steps rows made h ids e
