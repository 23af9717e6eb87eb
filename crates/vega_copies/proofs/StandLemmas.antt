-- What marks keep, and what names stand for in a copy of a group that is entered.
use Rattle.std.proofs.Common.{◌≡◌, ℕ, suc, ◌+◌, Bool, true, false, cond, List, [], ◌∷◌, map, Bor, refl, sym, ap, ◌∙◌, subst, arith}
use Rattle.std.specs.Prelude.{All}
use Rattle.std.specs.Str.{bytes_eq}
use Rattle.cell_value.specs.declared.state.Keyed.{Keyed}
use Rattle.cell_value.specs.declared.state.Named.{Named}
use Rattle.cell_value.specs.declared.state.StoreOf.{StoreOf}
use Rattle.cell_value.specs.Datum.{datum_of}
use Rattle.cell_value.specs.State.{Dataset, dataset_of}
use Rattle.vega_spec.specs.declared.spec.Group.{out-Group}
use Rattle.vega_spec.specs.declared.spec.VgMark.{VgMark, out-VgMark}
use Rattle.vega_lists.specs.Held.{AreAllRows, scope_read}
use Rattle.vega_lists.specs.Inside.{RowsByName, rows_inside, AllKeysFit}
use Rattle.vega_lists.specs.Products.{Products, products_after}
use Rattle.vega_lists.specs.Scopes.{Scope}
use Rattle.vega_lists.specs.Transforms.{OfTransforms, is_kept}
use Rattle.vega_signals.specs.Settling.{values_inside}
use Rattle.vega_signals.specs.Signals.{data_of}
use Rattle.vega_copies.specs.declared.copies.CopyOf.{CopyOf}
use Rattle.vega_copies.specs.declared.names.Level.{Level}
use Rattle.vega_copies.specs.declared.names.NamesAt.{NamesAt}
use Rattle.vega_copies.specs.Outlines.{Object, Marks, NoMarks, AMark, AGroup, PlainMark, facet_in, count_marks, count_groups}
use Rattle.vega_copies.specs.Scopes.{names_in_object}
use Rattle.vega_copies.specs.Facets.{with_parts}
use Rattle.vega_copies.specs.CopyNames.{names_in_copy}
use Rattle.vega_copies.specs.Fitting.{products_in_copy}
use Rattle.vega_copies.specs.inner.Kept.{KeepsObject, KeepsMarks, FoldsFitIn}
use Rattle.vega_copies.specs.inner.Levels.{parts_over, rows_at, values_at, names_at, names_over, names_with_level, rows_with_level, AreNames, AreLevels}
use Rattle.vega_copies.specs.inner.Copied.{copy_seen, IsCopy}
use Rattle.vega_copies.specs.inner.Outlined.{marks_in, marks_of, is_group, plain_of, group_object, object_numbered, AreFew}
use Rattle.vega_copies.specs.inner.Made.{levels_behind, rows_under, values_under}
use Rattle.vega_copies.specs.inner.Standing.{MayStand, MarksMayFold}
use Rattle.vega_copies.proofs.OutlineLemmas.{plain_first, group_first, counted_first, grouped_first, group_counted, group_grouped}

-- ---- the first of some marks, the others, and those in a group

module _ (P : Marks → Type 0) (m : VgMark) where
  first_of : (ms : List VgMark)
      → ((plain : PlainMark) (others : Marks) → P (AMark 0 plain others) → P (AMark 0 plain NoMarks))
      → ((o : Object) (inside others : Marks) → P (AGroup o inside others) → P (AGroup o inside NoMarks))
      → P (marks_of (m ∷ ms)) → P (marks_of (m ∷ []))
  first_of ms plain group p = by_type (is_group (out-VgMark m)) refl
    where
      by_type : (b : Bool) → is_group (out-VgMark m) ≡ b → P (marks_of (m ∷ []))
      by_type true e =
          subst P (sym (group_first m NoMarks e))
          (group (group_object 0 (out-VgMark m)) (marks_of (marks_in (out-Group (out-VgMark m).group)))
          (marks_of ms) (subst P (group_first m (marks_of ms) e) p))
      by_type false e =
          subst P (sym (plain_first m NoMarks e)) (plain (plain_of (out-VgMark m)) (marks_of ms) (subst P (plain_first m (marks_of ms) e) p))

  rest_of : (ms : List VgMark)
      → ((plain : PlainMark) (others : Marks) → P (AMark 0 plain others) → P others)
      → ((o : Object) (inside others : Marks) → P (AGroup o inside others) → P others)
      → P (marks_of (m ∷ ms)) → P (marks_of ms)
  rest_of ms plain group p = by_type (is_group (out-VgMark m)) refl
    where
      by_type : (b : Bool) → is_group (out-VgMark m) ≡ b → P (marks_of ms)
      by_type true e =
          group (group_object 0 (out-VgMark m)) (marks_of (marks_in (out-Group (out-VgMark m).group))) (marks_of ms) (subst P (group_first m (marks_of ms) e) p)
      by_type false e = plain (plain_of (out-VgMark m)) (marks_of ms) (subst P (plain_first m (marks_of ms) e) p)

  as_group : is_group (out-VgMark m) ≡ true → P (marks_of (m ∷ []))
      → P (AGroup (group_object 0 (out-VgMark m)) (marks_of (marks_in (out-Group (out-VgMark m).group))) NoMarks)
  as_group e p = subst P (group_first m NoMarks e) p

kept_plain : (plain : PlainMark) (others : Marks) → KeepsMarks (AMark 0 plain others) → KeepsMarks (AMark 0 plain NoMarks)
kept_plain plain others kept = tt

kept_group : (o : Object) (inside others : Marks) → KeepsMarks (AGroup o inside others) → KeepsMarks (AGroup o inside NoMarks)
kept_group o inside others (kept, below, rest) = (kept, below, tt)

kept_behind_plain : (plain : PlainMark) (others : Marks) → KeepsMarks (AMark 0 plain others) → KeepsMarks others
kept_behind_plain plain others kept = kept

kept_behind : (o : Object) (inside others : Marks) → KeepsMarks (AGroup o inside others) → KeepsMarks others
kept_behind o inside others (kept, below, rest) = rest

kept_below : (o : Object) (inside others : Marks) → KeepsMarks (AGroup o inside others) → KeepsMarks inside
kept_below o inside others (kept, below, rest) = below

kept_object : (o : Object) (inside others : Marks) → KeepsMarks (AGroup o inside others) → KeepsObject o
kept_object o inside others (kept, below, rest) = kept

module _ (products : Products) where
  fit_plain : (plain : PlainMark) (others : Marks) → FoldsFitIn products (AMark 0 plain others) → FoldsFitIn products (AMark 0 plain NoMarks)
  fit_plain plain others fit = tt

  fit_group : (o : Object) (inside others : Marks) → FoldsFitIn products (AGroup o inside others) → FoldsFitIn products (AGroup o inside NoMarks)
  fit_group o inside others (fit, below, rest) = (fit, below, tt)

  fit_behind_plain : (plain : PlainMark) (others : Marks) → FoldsFitIn products (AMark 0 plain others) → FoldsFitIn products others
  fit_behind_plain plain others fit = fit

  fit_behind : (o : Object) (inside others : Marks) → FoldsFitIn products (AGroup o inside others) → FoldsFitIn products others
  fit_behind o inside others (fit, below, rest) = rest

-- the marks may stand where the whole list may
pub stand_first : (rows : RowsByName) (m : VgMark) (ms : List VgMark) → MayStand rows (m ∷ ms) → MayStand rows (m ∷ [])
stand_first rows m ms stand = record { kept = first_of KeepsMarks m ms kept_plain kept_group stand.kept; folds = folds stand.folds }
  where
    folds : MarksMayFold rows (marks_of (m ∷ ms)) → MarksMayFold rows (marks_of (m ∷ []))
    folds (products, keys, fit) = (products, keys, first_of (FoldsFitIn products) m ms (fit_plain products) (fit_group products) fit)

pub stand_rest : (rows : RowsByName) (m : VgMark) (ms : List VgMark) → MayStand rows (m ∷ ms) → MayStand rows ms
stand_rest rows m ms stand = record { kept = rest_of KeepsMarks m ms kept_behind_plain kept_behind stand.kept; folds = folds stand.folds }
  where
    folds : MarksMayFold rows (marks_of (m ∷ ms)) → MarksMayFold rows (marks_of ms)
    folds (products, keys, fit) = (products, keys, rest_of (FoldsFitIn products) m ms (fit_behind_plain products) (fit_behind products) fit)

-- numbers that are few enough
pub few_first : (unit number : ℕ) (m : VgMark) (ms : List VgMark) → AreFew unit number (m ∷ ms) → AreFew unit number (m ∷ [])
few_first unit number m ms few = record {
  units = let all = few.units in let parts = counted_first m ms in omega (arith, all, parts);
  numbers = let all = few.numbers in let parts = grouped_first m ms in omega (arith, all, parts);
}

pub few_rest : (unit number : ℕ) (m : VgMark) (ms : List VgMark) → AreFew unit number (m ∷ ms)
    → AreFew (unit + count_marks (marks_of (m ∷ []))) (number + count_groups (marks_of (m ∷ []))) ms
few_rest unit number m ms few = record {
  units = let all = few.units in let parts = counted_first m ms in omega (arith, all, parts);
  numbers = let all = few.numbers in let parts = grouped_first m ms in omega (arith, all, parts);
}

pub few_inside : (unit number : ℕ) (m : VgMark) → is_group (out-VgMark m) ≡ true → AreFew unit number (m ∷ [])
    → AreFew unit (suc number) (marks_in (out-Group (out-VgMark m).group))
few_inside unit number m e few = record {
  units = let all = few.units in let parts = group_counted m [] e in omega (arith, all, parts);
  numbers = let all = few.numbers in let parts = group_grouped m [] e in omega (arith, all, parts);
}

-- what an object keeps doesn't ask for its number
pub object_kept : (rows : RowsByName) (number : ℕ) (m : VgMark) → is_group (out-VgMark m) ≡ true → MayStand rows (m ∷ [])
    → KeepsObject (group_object number (out-VgMark m))
object_kept rows number m e stand =
    let kept = kept_object (group_object 0 (out-VgMark m))
    (marks_of (marks_in (out-Group (out-VgMark m).group))) NoMarks (as_group KeepsMarks m e stand.kept) in
    record { sets = kept.sets; scales = kept.scales; domains = kept.domains; bounds = kept.bounds; axes = kept.axes; columns = kept.columns }

pub object_alone : (number : ℕ) (m : VgMark) → KeepsObject (group_object number (out-VgMark m))
    → KeepsObject (object_numbered number (out-Group (out-VgMark m).group))
object_alone number m kept = record {
  sets = kept.sets;
  scales = kept.scales;
  domains = kept.domains;
  bounds = kept.bounds;
  axes = kept.axes;
  columns = kept.columns;
}

-- the marks in a group
pub marks_kept : (rows : RowsByName) (m : VgMark) → is_group (out-VgMark m) ≡ true → MayStand rows (m ∷ [])
    → KeepsMarks (marks_of (marks_in (out-Group (out-VgMark m).group)))
marks_kept rows m e stand =
    kept_below (group_object 0 (out-VgMark m)) (marks_of (marks_in (out-Group (out-VgMark m).group))) NoMarks (as_group KeepsMarks m e stand.kept)

-- the data sets of a group
pub sets_kept : (rows : RowsByName) (m : VgMark) → is_group (out-VgMark m) ≡ true → MayStand rows (m ∷ [])
    → All (OfTransforms is_kept) (data_of (out-Group (out-VgMark m).group))
sets_kept rows m e stand = (object_kept rows 0 m e stand).sets

-- ---- one more level of names

pub rows_are_under : (sources : List Named) (levels : List (Bor Level)) → rows_at sources levels ≡ rows_under sources (levels_behind levels)
rows_are_under sources [] = refl
rows_are_under sources (level ∷ outer) =
    ap (λ (rows : RowsByName). rows_inside sources (parts_over level.now.parts rows) level.now.lists) (rows_are_under sources outer)

pub values_are_under : (stores : List StoreOf) (levels : List (Bor Level)) → values_at stores levels ≡ values_under stores (levels_behind levels)
values_are_under stores [] = refl
values_are_under stores (level ∷ outer) = ap (values_inside level.now.signals) (values_are_under stores outer)

module _ (outer : NamesAt) (level : Level) (levels : List (Bor Level)) (more : map (λ l. l.now) levels ≡ level ∷ map (λ l. l.now) outer.levels.now) where
  pub rows_entered : rows_at outer.sources.now levels ≡ rows_with_level outer level
  rows_entered =
      rows_are_under outer.sources.now levels ∙ ap (rows_under outer.sources.now) more
      ∙ ap (λ (rows : RowsByName). rows_inside outer.sources.now (parts_over level.parts rows) level.lists)
      (sym (rows_are_under outer.sources.now outer.levels.now))

  values_entered : values_at outer.stores.now levels ≡ values_inside level.signals (values_at outer.stores.now outer.levels.now)
  values_entered =
      values_are_under outer.stores.now levels ∙ ap (values_under outer.stores.now) more
      ∙ ap (values_inside level.signals) (sym (values_are_under outer.stores.now outer.levels.now))

  pub names_entered : names_at outer.stores.now outer.sources.now levels ≡ names_with_level outer level
  names_entered = λ i. record { lists = scope_read (rows_entered i); values = values_entered i }

  pub levels_entered : AreNames outer → AreAllRows (rows_with_level outer level) → AreLevels outer.sources.now levels
  levels_entered names rows = record { sources_are = names.sources_are; rows = subst AreAllRows (sym rows_entered) rows }

-- the marks in a group may stand in a copy of it
pub stand_inside : (outer : NamesAt) (level : Level) (m : VgMark) (copy : CopyOf) → is_group (out-VgMark m) ≡ true
    → MayStand (rows_at outer.sources.now outer.levels.now) (m ∷ []) → IsCopy outer (out-VgMark m) copy
    → ((products : Products) → AllKeysFit products (parts_over copy.parts (rows_at outer.sources.now outer.levels.now))
    → AllKeysFit (products_after products (data_of (out-Group (out-VgMark m).group))) (rows_with_level outer level))
    → MayStand (rows_with_level outer level) (marks_in (out-Group (out-VgMark m).group))
stand_inside outer level m copy e stand sound after =
    record { kept = marks_kept (rows_at outer.sources.now outer.levels.now) m e stand; folds = by_folds stand.folds }
  where
    by_fit : (products : Products) → AllKeysFit products (rows_at outer.sources.now outer.levels.now)
        → FoldsFitIn products (AGroup (group_object 0 (out-VgMark m)) (marks_of (marks_in (out-Group (out-VgMark m).group))) NoMarks)
        → MarksMayFold (rows_with_level outer level) (marks_of (marks_in (out-Group (out-VgMark m).group)))
    by_fit products keys (fit, below, rest) =
        let here = products_in_copy (facet_in (out-VgMark m).from) products in
        (products_after here (data_of (out-Group (out-VgMark m).group)), after here (sound.folds products keys), below)

    by_folds : MarksMayFold (rows_at outer.sources.now outer.levels.now) (marks_of (m ∷ []))
        → MarksMayFold (rows_with_level outer level) (marks_of (marks_in (out-Group (out-VgMark m).group)))
    by_folds (products, keys, fit) = by_fit products keys (as_group (FoldsFitIn products) m e fit)

-- ---- a copy, by its names

rows_either : (b : Bool) (own outside : List Keyed) → cond b (map datum_of own) (map datum_of outside) ≡ map datum_of (cond b own outside)
rows_either true own outside = refl
rows_either false own outside = refl

part_first : (part : Named) (others : List Named) (rows : RowsByName)
    → with_parts (map dataset_of others) (scope_read rows) ≡ scope_read (parts_over others rows) → (name : List ℕ)
    → with_parts (map dataset_of (part ∷ others)) (scope_read rows) name ≡ scope_read (parts_over (part ∷ others) rows) name
part_first part others rows behind name =
    ap (λ (scope : Scope). cond (bytes_eq part.name name) (map datum_of part.rows) (scope name)) behind
    ∙ rows_either (bytes_eq part.name name) part.rows (parts_over others rows name)

-- parts over lists of rows, as they are read
pub parts_read : (parts : List Named) (rows : RowsByName) → with_parts (map dataset_of parts) (scope_read rows) ≡ scope_read (parts_over parts rows)
parts_read [] rows = refl
parts_read (part ∷ others) rows = λ i name. part_first part others rows (parts_read others rows) name i

pub names_of_copy : (sources : List Dataset) (outer : NamesAt) (o : Object) (copy : CopyOf)
    → names_in_copy sources (names_at outer.stores.now outer.sources.now outer.levels.now) o (copy_seen copy)
    ≡ names_in_object sources (names_over outer copy.parts) o
names_of_copy sources outer o copy =
    ap (λ (scope : Scope). names_in_object sources (record (names_at outer.stores.now outer.sources.now outer.levels.now) { lists = scope }) o)
    (parts_read copy.parts (rows_at outer.sources.now outer.levels.now))
