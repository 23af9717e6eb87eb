-- Where signals stand in an order, they settle.
use Rattle.std.proofs.Common.{◌≡◌, ℕ, zero, suc, ◌≤◌, Bool, true, false, cond, List, [], ◌∷◌, ◌++◌, append_assoc, ◌||◌, flat_map, length}
use Rattle.std.proofs.Common.{All, Option, Some, None, Result, Ok, Err, IfSome, IfOk, unwrap_or, refl, sym, ap, ap₂, ◌∙◌, subst, arith}
use Rattle.std.specs.Option.{option_map, option_map_or}
use Rattle.std.specs.Str.{bytes_eq}
use Rattle.std.proofs.lemmas.List.{append-nil}
use Rattle.std.proofs.lemmas.List.Folds.{list_any-append}
use Rattle.std.specs.List.{list_any}
use Rattle.fixed_num.specs.Ranges.{◌>>=◌}
use Rattle.expr_syntax.proofs.Grounds.{bytes_true}
use Rattle.text_kit.specs.declared.memory.OutOfMemory.{OutOfMemory}
use Rattle.cell_value.specs.declared.cell.Cell.{Cell}
use Rattle.cell_value.specs.declared.cell.Cell.TheVariants.{Null}
use Rattle.cell_value.specs.State.{Dataset}
use Rattle.cell_value.specs.Cell.{truth}
use Rattle.cell_value.specs.Datum.{Datum, datum_with}
use Rattle.expr_syntax.specs.declared.expr.Expr.{Expr}
use Rattle.expr_reading.specs.Mentions.{parameters_in}
use Rattle.expr_eval.specs.Plain.{null_row}
use Rattle.expr_eval.specs.Value.{value_of}
use Rattle.expr_eval.specs.Values.{Values}
use Rattle.plain_rows.specs.Filters.{kept}
use Rattle.plain_rows.specs.Calculations.{each_with}
use Rattle.plain_rows.specs.Lookups.{data_looked_up}
use Rattle.plain_bins.specs.Binned.{data_binned}
use Rattle.vega_spec.specs.declared.data.DataSet.{DataSet}
use Rattle.vega_spec.specs.declared.signals.Signal.{Signal}
use Rattle.vega_spec.specs.declared.transforms.BinExtent.{BinExtent}
use Rattle.vega_spec.specs.declared.transforms.BinExtent.TheVariants as bounds
use Rattle.vega_spec.specs.declared.transforms.Extent.{Extent}
use Rattle.vega_spec.specs.declared.transforms.Transform.{Transform}
use Rattle.vega_spec.specs.declared.transforms.Transform.TheVariants as vega
use Rattle.vega_lists.specs.Scopes.{Scope, with_list, list_named}
use Rattle.vega_lists.specs.Settings.{bin_settings, extent_in, lookup_settings, pair_in}
use Rattle.vega_lists.specs.Transforms.{transformed, transforms_of}
use Rattle.vega_lists.specs.Lists.{begun_rows}
use Rattle.vega_signals.specs.Extents.{Settled, update_of, is_computed, computed_here, extent_asked, extent_over, extent_here, rows_left}
use Rattle.vega_signals.specs.Extents.{all_left, extents_in, set_extents}
use Rattle.vega_signals.specs.Settling.{as_given, is_own, first_named, values_inside, own_names, next_own, own_after}
use Rattle.vega_signals.specs.Needs.{Need, Reads, no_reads, with_reads, extent_reads, transform_reads, all_reads, begun_reads, extent_needs}
use Rattle.vega_signals.specs.Needs.{set_needs, computed_needs, own_needs, IsPlaced, AreInOrder}
use Rattle.vega_signals.specs.Laws.{SettleInOrder}
use Rattle.vega_signals.proofs.InnerLaw.{or_else}
use Rattle.vega_signals.proofs.AgreeLemmas.{SameNamed, AgreeOn, reading, front, back, same_value}

module _ (outer v w : Values) where
  -- two lists of values with the same names, of which each value is the same where what it needs is
  abbrev Follow : Settled → Settled → List Need → Type 0
  Follow [] [] [] = Unit {0}
  Follow [] [] (d ∷ ds) = ⊥
  Follow [] (y ∷ ys) ds = ⊥
  Follow (x ∷ xs) [] ds = ⊥
  Follow (x ∷ xs) (y ∷ ys) [] = ⊥
  Follow (x ∷ xs) (y ∷ ys) (d ∷ ds) = ((x.0 ≡ d.0) × (y.0 ≡ d.0) × (AgreeOn v w d.1 → x.1 ≡ y.1)) × Follow xs ys ds

  both_follow : (xs ys : Settled) (ds : List Need) (xs' ys' : Settled) (ds' : List Need) → Follow xs ys ds → Follow xs' ys' ds'
      → Follow (xs ++ xs') (ys ++ ys') (ds ++ ds')
  both_follow [] [] [] xs' ys' ds' h k = k
  both_follow [] [] (d ∷ ds) xs' ys' ds' h k = absurd h
  both_follow [] (y ∷ ys) ds xs' ys' ds' h k = absurd h
  both_follow (x ∷ xs) [] ds xs' ys' ds' h k = absurd h
  both_follow (x ∷ xs) (y ∷ ys) [] xs' ys' ds' h k = absurd h
  both_follow (x ∷ xs) (y ∷ ys) (d ∷ ds) xs' ys' ds' h k = (h.0, both_follow xs ys ds xs' ys' ds' h.1 k)

  -- a computed signal follows what its update mentions
  updated : (o : Option Expr) → AgreeOn v w (option_map_or parameters_in o [])
      → option_map_or (value_of null_row (reading outer v)) o (Some Null) ≡ option_map_or (value_of null_row (reading outer w)) o (Some Null)
  updated None h = refl
  updated (Some e) h = same_value outer v w null_row e h

  computed_either : (b : Bool) (name : List ℕ) (c d : Option Cell) (reads : List (List ℕ)) → (AgreeOn v w reads → c ≡ d)
      → Follow (cond b ((name, c) ∷ []) []) (cond b ((name, d) ∷ []) []) (cond b ((name, reads) ∷ []) [])
  computed_either true name c d reads h = ((refl, refl, h), tt)
  computed_either false name c d reads h = tt

  computed_follow : (signals : List Signal) → Follow (flat_map (computed_here (reading outer v)) signals)
      (flat_map (computed_here (reading outer w)) signals) (flat_map computed_needs signals)
  computed_follow [] = tt
  computed_follow (s ∷ signals) =
      both_follow (computed_here (reading outer v) s) (computed_here (reading outer w) s) (computed_needs s) _ _ _
      (computed_either (is_computed s) s.name _ _ (option_map_or parameters_in (update_of s) []) (updated (update_of s)))
      (computed_follow signals)

  -- lists are the same where what they read is
  abbrev SameLists : Reads → Scope → Scope → Type 0
  SameLists reads a b = (name : List ℕ) → AgreeOn v w (reads name) → a name ≡ b name

  bounds_same : (e : BinExtent) → AgreeOn v w (extent_reads e) → extent_in (reading outer v) e ≡ extent_in (reading outer w) e
  bounds_same (bounds.Pair a b) h = refl
  bounds_same (bounds.Signal name) h = ap (option_map pair_in) h.0.value

  module _ (reads : Reads) (a b : Scope) (lists : SameLists reads a b) where
    -- what a transform makes follows what it reads
    same_made : (t : Transform) (rows : List Datum) → AgreeOn v w (transform_reads reads t)
        → transformed (reading outer v) a t rows ≡ transformed (reading outer w) b t rows
    same_made (vega.Filter f) rows h = λ i. kept (λ (row : Datum). option_map truth (same_value outer v w row.cell f.expr h i)) rows
    same_made (vega.Formula f) rows h = λ i. each_with (λ (row : Datum). same_value outer v w row.cell f.expr h i) (datum_with f.as_) rows
    same_made (vega.Extent e) rows h = refl
    same_made (vega.Bin x) rows h = ap (λ o. o >>= λ taken. data_binned (bin_settings taken x) rows) (bounds_same x.extent h)
    same_made (vega.TimeUnit t) rows h = refl
    same_made (vega.Aggregate x) rows h = refl
    same_made (vega.JoinAggregate x) rows h = refl
    same_made (vega.Stack s) rows h = refl
    same_made (vega.Window x) rows h = refl
    same_made (vega.Lookup l) rows h = ap (λ other. Some (data_looked_up (lookup_settings l) other rows)) (lists l.from h)
    same_made (vega.Fold f) rows h = refl

    same_left : (t : Transform) (before : List (List ℕ)) (p q : List Datum) → (AgreeOn v w before → p ≡ q) → AgreeOn v w (before ++ transform_reads reads t)
        → rows_left (reading outer v) a t p ≡ rows_left (reading outer w) b t q
    same_left t before p q same h =
        ap (λ o. unwrap_or o []) (same_made t p (back v w before (transform_reads reads t) h))
        ∙ ap (rows_left (reading outer w) b t) (same (front v w before (transform_reads reads t) h))

    same_all_left : (ts : List Transform) (before : List (List ℕ)) (p q : List Datum) → (AgreeOn v w before → p ≡ q) → AgreeOn v w (all_reads reads ts before)
        → all_left (reading outer v) a ts p ≡ all_left (reading outer w) b ts q
    same_all_left [] before p q same h = same h
    same_all_left (t ∷ ts) before p q same h =
        same_all_left ts (before ++ transform_reads reads t) (rows_left (reading outer v) a t p)
        (rows_left (reading outer w) b t q) (same_left t before p q same) h

    extent_follows : (o : Option Extent) (before : List (List ℕ)) (p q : List Datum) → (AgreeOn v w before → p ≡ q)
        → Follow (option_map_or (λ e. extent_over p e ∷ []) o []) (option_map_or (λ e. extent_over q e ∷ []) o [])
        (option_map_or (λ (e : Extent). (e.signal, before) ∷ []) o [])
    extent_follows None before p q same = tt
    extent_follows (Some e) before p q same = ((refl, refl, (λ h. ap (λ rows. (extent_over rows e).1) (same h))), tt)

    extents_follow : (ts : List Transform) (before : List (List ℕ)) (p q : List Datum) → (AgreeOn v w before → p ≡ q)
        → Follow (extents_in (reading outer v) a ts p) (extents_in (reading outer w) b ts q) (extent_needs reads ts before)
    extents_follow [] before p q same = tt
    extents_follow (t ∷ ts) before p q same =
        both_follow (extent_here t p) (extent_here t q) (option_map_or (λ (e : Extent). (e.signal, before) ∷ []) (extent_asked t) []) _ _ _
        (extent_follows (extent_asked t) before p q same)
        (extents_follow ts (before ++ transform_reads reads t) (rows_left (reading outer v) a t p)
        (rows_left (reading outer w) b t q) (same_left t before p q same))

    begun_same : (sources : List Dataset) (set : DataSet) → AgreeOn v w (begun_reads reads set) → begun_rows sources a set ≡ begun_rows sources b set
    begun_same sources set = by_source set.source
      where
        by_source : (o : Option (List ℕ)) → AgreeOn v w (option_map_or reads o [])
            → option_map_or a o (list_named sources set.name) ≡ option_map_or b o (list_named sources set.name)
        by_source None h = refl
        by_source (Some name) h = lists name h

    either_same : (x : Bool) (names : List (List ℕ)) (p q : List Datum) (other : List ℕ)
        → (AgreeOn v w names → p ≡ q) → AgreeOn v w (cond x names (reads other))
        → cond x p (a other) ≡ cond x q (b other)
    either_same true names p q other same h = same h
    either_same false names p q other same h = lists other h

  -- the extents of data sets follow what they read
  sets_follow : (sources : List Dataset) (reads : Reads) (a b : Scope) → SameLists reads a b → (sets : List DataSet)
      → Follow (set_extents (reading outer v) sources a sets) (set_extents (reading outer w) sources b sets) (set_needs reads sets)
  sets_follow sources reads a b lists [] = tt
  sets_follow sources reads a b lists (set ∷ sets) =
      let ts = transforms_of set in
      let names = all_reads reads ts (begun_reads reads set) in
      let p = all_left (reading outer v) a ts (begun_rows sources a set) in
      let q = all_left (reading outer w) b ts (begun_rows sources b set) in
      both_follow (extents_in (reading outer v) a ts (begun_rows sources a set))
      (extents_in (reading outer w) b ts (begun_rows sources b set)) (extent_needs reads ts (begun_reads reads set)) _ _ _
      (extents_follow reads a b lists ts (begun_reads reads set) (begun_rows sources a set) (begun_rows sources b set) (begun_same reads a b lists sources set))
      (sets_follow sources (with_reads set.name names reads) (with_list set.name p a) (with_list set.name q b)
      (λ other. either_same reads a b lists (bytes_eq set.name other) names p q other
      (same_all_left reads a b lists ts (begun_reads reads set) (begun_rows sources a set)
      (begun_rows sources b set) (begun_same reads a b lists sources set))) sets)

  -- a name reads the same where all that have it follow what is the same, and else as something does
  module _ (name : List ℕ) (other : Option Cell) where
    found_same : (b : Bool) (x y : List ℕ × Option Cell) (rest rest' : Option (List ℕ × Option Cell)) → (b ≡ true → x.1 ≡ y.1)
        → or_else rest other ≡ or_else rest' other → or_else (cond b (Some x) rest) other ≡ or_else (cond b (Some y) rest') other
    found_same true x y rest rest' h k = h refl
    found_same false x y rest rest' h k = k

    named_same : (xs ys : Settled) (ds : List Need) → Follow xs ys ds → All (λ (d : Need). d.0 ≡ name → AgreeOn v w d.1) ds
        → or_else (first_named xs name) other ≡ or_else (first_named ys name) other
    named_same [] [] [] h each = refl
    named_same [] [] (d ∷ ds) h each = absurd h
    named_same [] (y ∷ ys) ds h each = absurd h
    named_same (x ∷ xs) [] ds h each = absurd h
    named_same (x ∷ xs) (y ∷ ys) [] h each = absurd h
    named_same (x ∷ xs) (y ∷ ys) (d ∷ ds) h each =
        let (named, known, same) = h.0 in
        let one : x.0 ≡ y.0 = named ∙ sym known in
        found_same (bytes_eq x.0 name) x y (first_named xs name) (first_named ys name)
        (λ e. same (each 0 d (omega arith) (sym named ∙ bytes_true x.0 name e))) (named_same xs ys ds h.1 (λ k e lt. each (suc k) e (omega arith)))
        ∙ ap (λ n. or_else (cond (bytes_eq n name) (Some y) (first_named ys name)) other) one

    named_behind : (ps xs ys : Settled) → or_else (first_named xs name) other ≡ or_else (first_named ys name) other
        → or_else (first_named (ps ++ xs) name) other ≡ or_else (first_named (ps ++ ys) name) other
    named_behind [] xs ys e = e
    named_behind (p ∷ ps) xs ys e =
        found_same (bytes_eq p.0 name) p p (first_named (ps ++ xs) name) (first_named (ps ++ ys) name) (λ _. refl) (named_behind ps xs ys e)

    skipped : (b : Bool) (x : List ℕ × Option Cell) (rest : Option (List ℕ × Option Cell)) → (b ≡ true → ⊥) → or_else rest other ≡ other
        → or_else (cond b (Some x) rest) other ≡ other
    skipped true x rest never e = absurd (never refl)
    skipped false x rest never e = e

    -- a name that none has reads as something else does
    absent : (xs ys : Settled) (ds : List Need) → Follow xs ys ds → All (λ (d : Need). d.0 ≡ name → ⊥) ds → or_else (first_named xs name) other ≡ other
    absent [] ys ds h each = refl
    absent (x ∷ xs) [] ds h each = absurd h
    absent (x ∷ xs) (y ∷ ys) [] h each = absurd h
    absent (x ∷ xs) (y ∷ ys) (d ∷ ds) h each =
        skipped (bytes_eq x.0 name) x (first_named xs name)
        (λ e. each 0 d (omega arith) (sym h.0.0 ∙ bytes_true x.0 name e)) (absent xs ys ds h.1 (λ k e lt. each (suc k) e (omega arith)))

  -- whether a name is one of them
  module _ (name : List ℕ) where
    own_same : (xs ys : Settled) (ds : List Need) → Follow xs ys ds → is_own xs name ≡ is_own ys name
    own_same [] [] [] h = refl
    own_same [] [] (d ∷ ds) h = absurd h
    own_same [] (y ∷ ys) ds h = absurd h
    own_same (x ∷ xs) [] ds h = absurd h
    own_same (x ∷ xs) (y ∷ ys) [] h = absurd h
    own_same (x ∷ xs) (y ∷ ys) (d ∷ ds) h = ap₂ (λ (n : List ℕ) (b : Bool). bytes_eq n name || b) (h.0.0 ∙ sym h.0.1) (own_same xs ys ds h.1)

    unlike : (b : Bool) → (b ≡ true → ⊥) → b ≡ false
    unlike true never = absurd (never refl)
    unlike false never = refl

    not_own : (xs ys : Settled) (ds : List Need) → Follow xs ys ds → All (λ (d : Need). d.0 ≡ name → ⊥) ds → is_own xs name ≡ false
    not_own [] ys ds h each = refl
    not_own (x ∷ xs) [] ds h each = absurd h
    not_own (x ∷ xs) (y ∷ ys) [] h each = absurd h
    not_own (x ∷ xs) (y ∷ ys) (d ∷ ds) h each =
        ap₂ (λ (a b : Bool). a || b) (unlike (bytes_eq x.0 name) (λ e. each 0 d (omega arith) (sym h.0.0 ∙ bytes_true x.0 name e)))
        (not_own xs ys ds h.1 (λ k e lt. each (suc k) e (omega arith)))

  -- where all follow what is the same, they are the same
  all_same_values : (xs ys : Settled) (ds : List Need) → Follow xs ys ds → All (λ (d : Need). AgreeOn v w d.1) ds → xs ≡ ys
  all_same_values [] [] [] h each = refl
  all_same_values [] [] (d ∷ ds) h each = absurd h
  all_same_values [] (y ∷ ys) ds h each = absurd h
  all_same_values (x ∷ xs) [] ds h each = absurd h
  all_same_values (x ∷ xs) (y ∷ ys) [] h each = absurd h
  all_same_values (x ∷ xs) (y ∷ ys) (d ∷ ds) h each =
      let (named, other, same) = h.0 in
      ap₂ (λ (p : List ℕ × Option Cell) ps. p ∷ ps) ((λ i. ((named ∙ sym other) i, same (each 0 d (omega arith)) i)))
      (all_same_values xs ys ds h.1 (λ k e lt. each (suc k) e (omega arith)))

-- where no signal is there, no value is
no_values_there : (outer v w : Values) (xs ys : Settled) (ds : List Need) → Follow outer v w xs ys ds → All (λ (d : Need). ⊥) ds → xs ≡ []
no_values_there outer v w [] ys ds h each = refl
no_values_there outer v w (x ∷ xs) [] ds h each = absurd h
no_values_there outer v w (x ∷ xs) (y ∷ ys) [] h each = absurd h
no_values_there outer v w (x ∷ xs) (y ∷ ys) (d ∷ ds) h each = absurd (each 0 d (omega arith))

-- what agrees on all names up to a place agrees on such names
agree : (v w : Values) (place : List ℕ → ℕ) (n : ℕ) → ((name : List ℕ) → place name ≤ n → SameNamed v w name) → (names : List (List ℕ))
    → All (λ name. place name ≤ n) names → AgreeOn v w names
agree v w place n same [] each = tt
agree v w place n same (name ∷ names) each = (same name (each 0 name (omega arith)), agree v w place n same names (λ k e lt. each (suc k) e (omega arith)))

module _ (sources : List Dataset) (lists : Scope) (outer : Values) (given : Settled) (signals : List Signal) (sets : List DataSet) (place : List ℕ → ℕ)
    (order : AreInOrder signals sets place) where
  abbrev after : ℕ → Settled
  after = own_after sources lists outer given signals sets

  abbrev read_at : ℕ → Values
  read_at n = values_inside (after n) outer

  abbrev computed_by : Values → Settled
  computed_by v = flat_map (computed_here (reading outer v)) signals

  -- the signals that aren't given, where names read so
  abbrev made_by : Values → Settled
  made_by v = computed_by v ++ set_extents (reading outer v) sources lists sets

  next_is : (n : ℕ) → after (suc n) ≡ given ++ made_by (read_at n)
  next_is n = append_assoc given (computed_by (read_at n)) (set_extents (reading outer (read_at n)) sources lists sets)

  abbrev needs : List Need
  needs = own_needs signals sets

  follow : (v w : Values) → Follow outer v w (made_by v) (made_by w) needs
  follow v w =
      both_follow outer v w (computed_by v) (computed_by w) (flat_map computed_needs signals) (set_extents (reading outer v) sources lists sets)
      (set_extents (reading outer w) sources lists sets) (set_needs no_reads sets) (computed_follow outer v w signals)
      (sets_follow outer v w sources no_reads lists lists (λ name h. refl) sets)

  -- what is read of a name in both, by what stands behind the given signals
  same_behind : (v w : Values) (name : List ℕ) (xs ys : Settled) → v ≡ values_inside (given ++ xs) outer → w ≡ values_inside (given ++ ys) outer
      → or_else (first_named xs name) (outer.value name) ≡ or_else (first_named ys name) (outer.value name) → is_own xs name ≡ is_own ys name
      → SameNamed v w name
  same_behind v w name xs ys is there e own = record {
    value = ap (λ (r : Values). r.value name) is ∙ named_behind outer v w name (outer.value name) given xs ys e ∙ sym (ap (λ (r : Values). r.value name) there);
    member = λ field. ap (λ (r : Values). r.member name field) is ∙ ap (λ b. cond b Null (outer.member name field)) both
        ∙ sym (ap (λ (r : Values). r.member name field) there);
  }
    where
      both : is_own (given ++ xs) name ≡ is_own (given ++ ys) name
      both = list_any-append (λ (p : List ℕ × Option Cell). bytes_eq p.0 name) given xs
          ∙ ap (λ b. list_any (λ (p : List ℕ × Option Cell). bytes_eq p.0 name) given || b) own
          ∙ sym (list_any-append (λ (p : List ℕ × Option Cell). bytes_eq p.0 name) given ys)

  -- a signal has its value for good after as many rounds as its place says
  for_good : (n : ℕ) (name : List ℕ) → place name ≤ n → SameNamed (read_at n) (read_at (suc n)) name
  for_good zero name le =
      let v = read_at 0 in
      let none : All (λ (d : Need). d.0 ≡ name → ⊥) needs =
      λ k d lt e. let from_one = (order k d lt).from_one in let same = ap place e in omega (arith, from_one, same, le) in
      same_behind v (read_at 1) name [] (made_by v) (ap (λ l. values_inside l outer) (sym (append-nil given))) (ap (λ l. values_inside l outer) (next_is 0))
      (sym (absent outer v v name (outer.value name) (made_by v) (made_by v) needs (follow v v) none))
      (sym (not_own outer v v name (made_by v) (made_by v) needs (follow v v) none))
  for_good (suc n) name le =
      let v = read_at n in
      let w = read_at (suc n) in
      let each : All (λ (d : Need). d.0 ≡ name → AgreeOn v w d.1) needs =
      λ k d lt e. agree v w place n (for_good n) _
      (λ i m below. let lesser = (order k d lt).lesser i m below in let same = ap place e in omega (arith, lesser, same, le)) in
      same_behind w (read_at (suc (suc n))) name (made_by v) (made_by w)
      (ap (λ l. values_inside l outer) (next_is n)) (ap (λ l. values_inside l outer) (next_is (suc n)))
      (named_same outer v w name (outer.value name) (made_by v) (made_by w) needs (follow v w) each)
      (own_same outer v w name (made_by v) (made_by w) needs (follow v w))

  by_count : (n : ℕ) → length (own_names signals sets) ≡ n → after (suc n) ≡ after n
  by_count zero e =
      let v = read_at 0 in
      let none : All (λ (d : Need). ⊥) needs =
      λ k d lt. let from_one = (order k d lt).from_one in let bounded = (order k d lt).bounded in omega (arith, from_one, bounded, e) in
      next_is 0 ∙ ap (λ l. given ++ l) (no_values_there outer v v (made_by v) (made_by v) needs (follow v v) none) ∙ append-nil given
  by_count (suc n) e =
      let v = read_at n in
      let w = read_at (suc n) in
      let each : All (λ (d : Need). AgreeOn v w d.1) needs =
      λ k d lt. agree v w place n (for_good n) _ (λ i m below.
      let lesser = (order k d lt).lesser i m below in let bounded = (order k d lt).bounded in omega (arith, lesser, bounded, e)) in
      next_is (suc n) ∙ ap (λ l. given ++ l) (sym (all_same_values outer v w (made_by v) (made_by w) needs (follow v w) each)) ∙ sym (next_is n)

  -- values that a round leaves as they are
  module _ (now : Settled) (fixed : next_own sources lists outer given signals sets now ≡ now) where
    abbrev read_now : Values
    read_now = values_inside now outer

    now_is : now ≡ given ++ made_by read_now
    now_is = sym fixed ∙ append_assoc given (computed_by read_now) (set_extents (reading outer read_now) sources lists sets)

    -- they are what a signal has after as many rounds as its place says
    read_so : (n : ℕ) (name : List ℕ) → place name ≤ n → SameNamed (read_at n) read_now name
    read_so zero name le =
        let v = read_now in
        let none : All (λ (d : Need). d.0 ≡ name → ⊥) needs =
        λ k d lt e. let from_one = (order k d lt).from_one in let same = ap place e in omega (arith, from_one, same, le) in
        same_behind (read_at 0) v name [] (made_by v) (ap (λ l. values_inside l outer) (sym (append-nil given))) (ap (λ l. values_inside l outer) now_is)
        (sym (absent outer v v name (outer.value name) (made_by v) (made_by v) needs (follow v v) none))
        (sym (not_own outer v v name (made_by v) (made_by v) needs (follow v v) none))
    read_so (suc n) name le =
        let v = read_at n in
        let w = read_now in
        let each : All (λ (d : Need). d.0 ≡ name → AgreeOn v w d.1) needs =
        λ k d lt e. agree v w place n (read_so n) _
        (λ i m below. let lesser = (order k d lt).lesser i m below in let same = ap place e in omega (arith, lesser, same, le)) in
        same_behind (read_at (suc n)) w name (made_by v) (made_by w)
        (ap (λ l. values_inside l outer) (next_is n)) (ap (λ l. values_inside l outer) now_is)
        (named_same outer v w name (outer.value name) (made_by v) (made_by w) needs (follow v w) each)
        (own_same outer v w name (made_by v) (made_by w) needs (follow v w))

    settled_by : (n : ℕ) → length (own_names signals sets) ≡ n → now ≡ after n
    settled_by zero e =
        let v = read_now in
        let none : All (λ (d : Need). ⊥) needs =
        λ k d lt. let from_one = (order k d lt).from_one in let bounded = (order k d lt).bounded in omega (arith, from_one, bounded, e) in
        now_is ∙ ap (λ l. given ++ l) (no_values_there outer v v (made_by v) (made_by v) needs (follow v v) none) ∙ append-nil given
    settled_by (suc n) e =
        let v = read_at n in
        let w = read_now in
        let each : All (λ (d : Need). AgreeOn v w d.1) needs =
        λ k d lt. agree v w place n (read_so n) _ (λ i m below.
        let lesser = (order k d lt).lesser i m below in let bounded = (order k d lt).bounded in omega (arith, lesser, bounded, e)) in
        now_is ∙ ap (λ l. given ++ l) (sym (all_same_values outer v w (made_by v) (made_by w) needs (follow v w) each)) ∙ sym (next_is n)

pub settle_in_order : SettleInOrder
settle_in_order sources lists outer given signals sets place order =
    by_count sources lists outer (as_given given) signals sets place order (length (own_names signals sets)) refl

-- where signals stand in an order, values that a round leaves as they are are those at which they settle
pub fixed_settled : (sources : List Dataset) (lists : Scope) (outer : Values) (given : Settled) (signals : List Signal) (sets : List DataSet)
    (place : List ℕ → ℕ) → AreInOrder signals sets place → (now : Settled) → next_own sources lists outer given signals sets now ≡ now
    → now ≡ own_after sources lists outer given signals sets (length (own_names signals sets))
fixed_settled sources lists outer given signals sets place order now fixed =
    settled_by sources lists outer given signals sets place order now fixed (length (own_names signals sets)) refl

-- the same of values that may be found
pub settled_found : (sources : List Dataset) (lists : Scope) (outer : Values) (given : Settled) (signals : List Signal) (sets : List DataSet) (most : ℕ)
    → most ≡ length (own_names signals sets) → (place : List ℕ → ℕ) → All (IsPlaced place most) (own_needs signals sets)
    → (result : Result (Option Settled) OutOfMemory)
    → IfOk result (λ found. IfSome found (λ now. next_own sources lists outer given signals sets now ≡ now))
    → IfOk result (λ found. IfSome found (λ now. now ≡ own_after sources lists outer given signals sets most))
settled_found sources lists outer given signals sets most is place placed (Ok (Some now)) fixed =
    let order : AreInOrder signals sets place = subst (λ (n : ℕ). All (IsPlaced place n) (own_needs signals sets)) is placed in
    fixed_settled sources lists outer given signals sets place order now fixed ∙ ap (own_after sources lists outer given signals sets) (sym is)
settled_found sources lists outer given signals sets most is place placed (Ok None) fixed = tt
settled_found sources lists outer given signals sets most is place placed (Err refused) fixed = tt
