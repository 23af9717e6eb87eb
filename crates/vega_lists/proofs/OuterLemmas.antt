-- What names stand for in an object that holds copies of the outer lists that it reads.
use Rattle.std.proofs.Common.{◌≡◌, ℕ, suc, ◌+◌, ◌<◌, Bool, true, false, cond, is_some, IsTrue, IfSome, List, [], ◌∷◌, ◌++◌, take, map}
use Rattle.std.proofs.Common.{length, get_or, All, Option, Some, None, unwrap_or, option_map, Result, Ok, Err, IfOk, refl, sym, ap, ◌∙◌}
use Rattle.std.proofs.Common.{subst, lit≤, arith}
use Rattle.std.specs.Option.{option_map_or}
use Rattle.std.specs.BTreeMap as tree
use Rattle.std.specs.Str.{bytes_eq}
use Rattle.std.proofs.lemmas.List.{take_more}
use Rattle.std.proofs.lemmas.List.Elements.{All-push}
use Rattle.std.proofs.lemmas.Slice.Eq.{bytes_eq-Decides}
use Rattle.text_kit.specs.declared.memory.OutOfMemory.{OutOfMemory}
use Rattle.fixed_num.specs.Ranges.{◌>>=◌}
use Rattle.cell_value.specs.declared.state.Keyed.{Keyed}
use Rattle.cell_value.specs.declared.state.Named.{Named}
use Rattle.cell_value.specs.State.{Dataset}
use Rattle.cell_value.specs.Datum.{Datum, datum_of}
use Rattle.expr_eval.specs.Values.{Values}
use Rattle.plain_rows.specs.Rows.{AreRows, AreKeys, keys_of}
use Rattle.vega_spec.specs.declared.data.DataSet.{DataSet}
use Rattle.vega_spec.specs.declared.transforms.Transform.{Transform}
use Rattle.vega_spec.specs.declared.transforms.Transform.TheVariants as vega
use Rattle.vega_lists.specs.declared.held.RowsIn.{RowsIn}
use Rattle.vega_lists.specs.declared.held.RowsIn.TheVariants.{Made, Nothing}
use Rattle.vega_lists.specs.declared.held.Lists.{Lists}
use Rattle.vega_lists.specs.Scopes.{Scope, list_named}
use Rattle.vega_lists.specs.Transforms.{transformed, all_transformed, transforms_of}
use Rattle.vega_lists.specs.Products.{KeysFit}
use Rattle.vega_lists.specs.Lists.{list_of}
use Rattle.vega_lists.specs.Held.{rows_there, rows_named, scope_in, AreLists, scope_read, AreAllRows}
use Rattle.vega_lists.specs.Inside.{RowsByName, no_rows, rows_held, rows_inside}
use Rattle.vega_lists.specs.inner.Places.{IsPut, ArePlaced, IsHeldAlso, IsNamed, IsHeld, IsHeldWhere, HoldsRead, TakesIn, list_read}
use Rattle.vega_lists.proofs.PlaceLemmas.{held_made, placed_made}

pub none_are : AreKeys []
none_are = record {
  rise = λ i j key less below. absurd (omega (arith, below));
  small_ids = λ k key below. absurd (omega (arith, below));
  few = lit≤ tt;
}

pub none_fit : (n : ℕ) → KeysFit n []
none_fit n = record { few = omega arith; branches = λ k d lt. absurd (omega (arith, lt)) }

-- rows that are held under a name are those of the name, whatever it stands for outside
module _ (sources : List Named) (outer : RowsByName) (lists : Lists) (name : List ℕ) where
  pub held_reads : IsHeld lists name → rows_named sources lists name ≡ rows_inside sources outer lists name
  held_reads = by_case (tree.get_by_text lists.by_name name)
    where
      by_case : (o : Option RowsIn) → IsTrue (is_some o)
          → rows_there sources lists.made (unwrap_or o Nothing) ≡ unwrap_or (option_map (rows_there sources lists.made) o) (outer name)
      by_case None h = absurd cc
      by_case (Some place) h = refl

  pub named_inside : (P : List Keyed → Type 0) → P [] → P (rows_inside sources outer lists name) → P (rows_named sources lists name)
  named_inside P none = by_case (tree.get_by_text lists.by_name name)
    where
      by_case : (o : Option RowsIn) → P (unwrap_or (option_map (rows_there sources lists.made) o) (outer name))
          → P (rows_there sources lists.made (unwrap_or o Nothing))
      by_case None h = none
      by_case (Some place) h = h

-- without outer lists names stand for what is held
pub nothing_outside : (sources : List Named) (lists : Lists) (name : List ℕ) → rows_inside sources no_rows lists name ≡ rows_named sources lists name
nothing_outside sources lists name = by_case (tree.get_by_text lists.by_name name)
  where
    by_case : (o : Option RowsIn) → unwrap_or (option_map (rows_there sources lists.made) o) [] ≡ rows_there sources lists.made (unwrap_or o Nothing)
    by_case None = refl
    by_case (Some place) = refl

-- where nothing is held names stand for what they stand for outside
pub nothing_held : (sources : List Named) (outer : RowsByName) (lists : Lists) → ((name : List ℕ) → tree.get_by_text lists.by_name name ≡ None)
    → rows_inside sources outer lists ≡ outer
nothing_held sources outer lists empty = λ i name. unwrap_or (option_map (rows_there sources lists.made) (empty name i)) (outer name)

rows_either : (b : Bool) (rows : List Keyed) (old : Option (List Keyed)) (outside : List Keyed)
    → unwrap_or (cond b (Some rows) old) outside ≡ cond b rows (unwrap_or old outside)
rows_either true rows old outside = refl
rows_either false rows old outside = refl

-- what is held also is what a name stands for inside
pub named_also : (sources : List Named) (outer : RowsByName) (old new : Lists) (name : List ℕ) (rows : List Keyed) → IsHeldAlso sources old name rows new
    → IsNamed (rows_inside sources outer old) name rows (rows_inside sources outer new)
named_also sources outer old new name rows also other =
    ap (λ o. unwrap_or o (outer other)) (also other) ∙ rows_either (bytes_eq name other) rows (rows_held sources old other) (outer other)

-- outer lists are held besides, and among them all that the first of some transforms read
pub record TakesSoFar (outer : RowsByName) (old : Lists) (transforms : List Transform) (new : Lists) : Type 0 where
  pub takes : TakesIn outer old new
  pub holds : All (HoldsRead new) transforms

module _ (outer : RowsByName) where
  pub takes_nothing : (lists : Lists) → ArePlaced lists → TakesIn outer lists lists
  takes_nothing lists placed = record { same = λ sources name. refl; kept = λ name h. h; placed = placed }

  pub takes_both : (a b c : Lists) → TakesIn outer a b → TakesIn outer b c → TakesIn outer a c
  takes_both a b c x y = record {
    same = λ sources name. y.same sources name ∙ x.same sources name;
    kept = λ name h. y.kept name (x.kept name h);
    placed = y.placed;
  }

  module _ (old new : Lists) (name : List ℕ) (made : new.made ≡ old.made ++ outer name ∷ [])
      (put : IsPut old.by_name name (Made (length old.made)) new.by_name) where
    as_before : (b : Bool) (rows before : List Keyed) → (b ≡ true → rows ≡ before) → cond b rows before ≡ before
    as_before true rows before same = same refl
    as_before false rows before same = refl

    still_held : (b : Bool) (place : RowsIn) (o : Option RowsIn) → IsTrue (is_some o) → IsTrue (is_some (cond b (Some place) o))
    still_held true place o h = refl
    still_held false place o h = h

    held_here : (b : Bool) (place : RowsIn) (o : Option RowsIn) → b ≡ true → IsTrue (is_some (cond b (Some place) o))
    held_here true place o e = refl
    held_here false place o e = absurd cc

    held_nowhere : (o : Option RowsIn) (f : RowsIn → List Keyed) (rows : List Keyed) → is_some o ≡ false → rows ≡ unwrap_or (option_map f o) rows
    held_nowhere None f rows e = refl
    held_nowhere (Some place) f rows e = absurd cc

    -- a copy of an outer list under its name
    pub takes_copy : is_some (tree.get_by_text old.by_name name) ≡ false → ArePlaced old → TakesIn outer old new
    takes_copy none placed = record {
      same = λ sources other.
          named_also sources outer old new name (outer name) (held_made sources old new name (outer name) made put placed) other
          ∙ as_before (bytes_eq name other) (outer name) (rows_inside sources outer old other)
          (λ e. subst (λ n. outer name ≡ rows_inside sources outer old n) ((bytes_eq-Decides name other).0 e)
          (held_nowhere (tree.get_by_text old.by_name name) (rows_there sources old.made) (outer name) none));
      kept = λ other h. subst (λ o. IsTrue (is_some o)) (sym (put other))
          (still_held (bytes_eq name other) (Made (length old.made)) (tree.get_by_text old.by_name other) h);
      placed = placed_made old new name (outer name) made put placed;
    }

    pub copy_is_held : IsHeld new name
    copy_is_held =
        subst (λ o. IsTrue (is_some o)) (sym (put name))
        (held_here (bytes_eq name name) (Made (length old.made)) (tree.get_by_text old.by_name name) ((bytes_eq-Decides name name).1 refl))

  kept_where : (old new : Lists) (name : Option (List ℕ)) → TakesIn outer old new → IsHeldWhere old name → IsHeldWhere new name
  kept_where old new None takes h = h
  kept_where old new (Some name) takes h = takes.kept name h

  pub takes_more : (old now next : Lists) (ts : List Transform) (i : ℕ) (t : Transform)
      → i < length ts → t ≡ get_or ts i t → TakesSoFar outer old (take i ts) now
      → TakesIn outer now next → HoldsRead next t → TakesSoFar outer old (take (i + 1) ts) next
  takes_more old now next ts i t lt at so_far takes holds = record {
    takes = takes_both old now next so_far.takes takes;
    holds =
        subst (All (HoldsRead next)) (sym (take_more ts i t lt))
        (All-push (HoldsRead next) (take i ts) (get_or ts i t)
        (λ k d below. kept_where now next (list_read (get_or (take i ts) k d)) takes (so_far.holds k d below))
        (subst (HoldsRead next) at holds));
  }

-- the same of what was answered
module _ (outer : RowsByName) (old : Lists) where
  module _ (name : List ℕ) (rows : List Keyed) (is : rows ≡ outer name) where
    copied : (next : Lists) → next.made ≡ old.made ++ rows ∷ [] → next.made ≡ old.made ++ outer name ∷ []
    copied next made = made ∙ ap (λ r. old.made ++ r ∷ []) is

    pub copy_takes : (result : Result Lists OutOfMemory) → IfOk result (λ next. next.made ≡ old.made ++ rows ∷ [])
        → IfOk result (λ next. IsPut old.by_name name (Made (length old.made)) next.by_name)
        → is_some (tree.get_by_text old.by_name name) ≡ false → ArePlaced old → IfOk result (TakesIn outer old)
    copy_takes (Ok next) made put none placed = takes_copy outer old next name (copied next made) put none placed
    copy_takes (Err refused) made put none placed = tt

    pub copy_holds : (result : Result Lists OutOfMemory) → IfOk result (λ next. next.made ≡ old.made ++ rows ∷ [])
        → IfOk result (λ next. IsPut old.by_name name (Made (length old.made)) next.by_name) → IfOk result (λ next. IsHeld next name)
    copy_holds (Ok next) made put = copy_is_held outer old next name (copied next made) put
    copy_holds (Err refused) made put = tt

  pub then_takes : (now : Lists) (result : Result Lists OutOfMemory) → TakesIn outer old now → IfOk result (TakesIn outer now) → IfOk result (TakesIn outer old)
  then_takes now (Ok next) takes more = takes_both outer old now next takes more
  then_takes now (Err refused) takes more = tt

  pub then_held : (result : Result Lists OutOfMemory) (name : Option (List ℕ))
      → IfOk result (TakesIn outer old) → IsHeldWhere old name → IfOk result (λ next. IsHeldWhere next name)
  then_held (Ok next) name takes held = kept_where outer old next name takes held
  then_held (Err refused) name takes held = tt

module _ (values : Values) (a b : Scope) where
  one_alike : (t : Transform) (rows : List Datum) → IfSome (list_read t) (λ name. a name ≡ b name) → transformed values a t rows ≡ transformed values b t rows
  one_alike (vega.Filter f) rows h = refl
  one_alike (vega.Formula f) rows h = refl
  one_alike (vega.Extent e) rows h = refl
  one_alike (vega.Bin f) rows h = refl
  one_alike (vega.TimeUnit t) rows h = refl
  one_alike (vega.Aggregate f) rows h = refl
  one_alike (vega.JoinAggregate f) rows h = refl
  one_alike (vega.Stack s) rows h = refl
  one_alike (vega.Window w) rows h = refl
  one_alike (vega.Lookup l) rows h = ap (λ list. transformed values (λ name. list) (vega.Lookup l) rows) h
  one_alike (vega.Fold f) rows h = refl

  all_alike : (ts : List Transform) (rows : List Datum) → All (λ t. IfSome (list_read t) (λ name. a name ≡ b name)) ts
      → all_transformed values a ts rows ≡ all_transformed values b ts rows
  all_alike [] rows h = refl
  all_alike (t ∷ ts) rows h =
      ap (λ o. o >>= all_transformed values a ts) (one_alike t rows (h 0 t (omega arith)))
      ∙ (λ i. transformed values b t rows >>= λ made. all_alike ts made (λ k d lt. h (suc k) d (omega arith)) i)

  -- a data set whose lists are the same in two scopes has the same rows in them
  pub list_alike : (sources : List Dataset) (set : DataSet) → IfSome set.source (λ name. a name ≡ b name)
      → All (λ t. IfSome (list_read t) (λ name. a name ≡ b name)) (transforms_of set) → list_of values sources a set ≡ list_of values sources b set
  list_alike sources set source h =
      all_alike (transforms_of set) (option_map_or a set.source (list_named sources set.name)) h
      ∙ ap (all_transformed values b (transforms_of set)) (by_case set.source source)
    where
      by_case : (o : Option (List ℕ)) → IfSome o (λ name. a name ≡ b name)
          → option_map_or a o (list_named sources set.name) ≡ option_map_or b o (list_named sources set.name)
      by_case None h = refl
      by_case (Some name) h = h

-- the rows of a data set where all lists that it reads are held
module _ (values : Values) (sources : List Named) (outer : RowsByName) (old new : Lists) (takes : TakesIn outer old new) where
  alike : (name : Option (List ℕ)) → IsHeldWhere new name → IfSome name (λ n. scope_in sources new n ≡ scope_read (rows_inside sources outer old) n)
  alike None h = h
  alike (Some name) h = ap (map datum_of) (held_reads sources outer new name h ∙ takes.same sources name)

  pub own_reads : (given : List Dataset) (set : DataSet) → IsHeldWhere new set.source → All (HoldsRead new) (transforms_of set)
      → list_of values given (scope_in sources new) set ≡ list_of values given (scope_read (rows_inside sources outer old)) set
  own_reads given set source looked_up =
      list_alike values (scope_in sources new) (scope_read (rows_inside sources outer old)) given set (alike set.source source)
      (λ k t lt. alike (list_read (get_or (transforms_of set) k t)) (looked_up k t lt))

  -- each name stands for a list of rows still
  pub own_are : AreAllRows (rows_inside sources outer old) → AreLists sources new
  own_are are name = named_inside sources outer new name AreRows none_are (subst AreRows (sym (takes.same sources name)) (are name))

  pub own_fit : (name : List ℕ) (n : ℕ) → KeysFit n (keys_of (rows_inside sources outer old name)) → KeysFit n (keys_of (rows_named sources new name))
  own_fit name n fits =
      named_inside sources outer new name (λ rows. KeysFit n (keys_of rows)) (none_fit n)
      (subst (λ (rows : List Keyed). KeysFit n (keys_of rows)) (sym (takes.same sources name)) fits)
