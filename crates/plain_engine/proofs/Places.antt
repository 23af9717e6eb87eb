-- A source by its name, and by its index.
use Rattle.std.proofs.Common.{◌≡◌, ℕ, zero, suc, ◌+◌, ◌<◌, Bool, true, false, ◌||◌, Some, None, List, [], ◌∷◌, ◌++◌, length, map, position}
use Rattle.std.proofs.Common.{get_or, set, take, drop, refl, sym, ap, ◌∙◌, arith}
use Rattle.std.specs.Prelude.{Result, Ok, Err, IfOk}
use Rattle.std.specs.List.{list_any, position_from}
use Rattle.std.specs.Str.{bytes_eq}
use Rattle.std.proofs.lemmas.Slice.Eq.{bytes_eq-Decides}
use Rattle.std.proofs.lemmas.List.Quantifiers.{position-Some}
use Rattle.std.proofs.lemmas.List.{append-nil, drop_all, take_all}
use Rattle.std.proofs.lemmas.List.Folds.{list_any_at}
use Rattle.std.proofs.lemmas.Iterator.Adapters.{position_from-zero}
use Rattle.cell_value.specs.declared.state.Keyed.{Keyed}
use Rattle.cell_value.specs.declared.state.Named.{Named}
use Rattle.cell_value.specs.Datum.{datum_of}
use Rattle.cell_value.specs.State.{dataset_of}
use Rattle.param_flow.specs.inner.Sources.{data_at, with_data, names_of, name_at}
use Rattle.plain_engine.specs.declared.edits.Edit.{Edit}
use Rattle.plain_engine.specs.declared.undo.Undo.{Undo}
use Rattle.plain_engine.specs.inner.Edits.{edited}
use Rattle.plain_engine.specs.inner.Undo.{taken_back}
use Rattle.plain_engine.specs.inner.Sources.{rows_at, with_rows}

-- whether a source has a name
abbrev pub has_name : List ℕ → Named → Bool
has_name name source = bytes_eq source.name name

-- sources and their rows, as they are read
pub read_at : (sources : List Named) (index : ℕ) → map datum_of (rows_at sources index) ≡ data_at (map dataset_of sources) index
read_at [] index = refl
read_at (source ∷ sources) zero = refl
read_at (source ∷ sources) (suc index) = read_at sources index

pub read_with : (sources : List Named) (index : ℕ) (rows : List Keyed)
    → map dataset_of (with_rows sources index rows) ≡ with_data (map dataset_of sources) index (map datum_of rows)
read_with [] index rows = refl
read_with (source ∷ sources) zero rows = refl
read_with (source ∷ sources) (suc index) rows = ap (λ rest. dataset_of source ∷ rest) (read_with sources index rows)

-- the source that stands at an index
pub found_rows : (sources : List Named) (index : ℕ) (d : Named) → index < length sources
    → (get_or sources index d).rows ≡ rows_at sources index
found_rows [] index d within = absurd (omega (arith, within))
found_rows (source ∷ sources) zero d within = refl
found_rows (source ∷ sources) (suc index) d within = found_rows sources index d (omega (arith, within))

-- and what is written there
pub put_rows : (sources : List Named) (index : ℕ) (d : Named) (rows : List Keyed) → index < length sources
    → set sources index (record { name = (get_or sources index d).name; rows = rows }) ≡ with_rows sources index rows
put_rows [] index d rows within = absurd (omega (arith, within))
put_rows (source ∷ sources) zero d rows within = refl
put_rows (source ∷ sources) (suc index) d rows within = ap (λ rest. source ∷ rest) (put_rows sources index d rows (omega (arith, within)))

pub rows_with : (sources : List Named) (index : ℕ) (rows : List Keyed) → index < length sources
    → rows_at (with_rows sources index rows) index ≡ rows
rows_with [] index rows within = absurd (omega (arith, within))
rows_with (source ∷ sources) zero rows within = refl
rows_with (source ∷ sources) (suc index) rows within = rows_with sources index rows (omega (arith, within))

pub twice_with : (sources : List Named) (index : ℕ) (rows others : List Keyed)
    → with_rows (with_rows sources index rows) index others ≡ with_rows sources index others
twice_with [] index rows others = refl
twice_with (source ∷ sources) zero rows others = refl
twice_with (source ∷ sources) (suc index) rows others = ap (λ rest. source ∷ rest) (twice_with sources index rows others)

pub same_rows : (sources : List Named) (index : ℕ) → with_rows sources index (rows_at sources index) ≡ sources
same_rows [] index = refl
same_rows (source ∷ sources) zero = refl
same_rows (source ∷ sources) (suc index) = ap (λ rest. source ∷ rest) (same_rows sources index)

pub length_with : (sources : List Named) (index : ℕ) (rows : List Keyed) → length (with_rows sources index rows) ≡ length sources
length_with [] index rows = refl
length_with (source ∷ sources) zero rows = refl
length_with (source ∷ sources) (suc index) rows = ap suc (length_with sources index rows)

-- where it has a name
read_name : (sources : List Named) (index : ℕ) (d : Named) → index < length sources
    → (get_or sources index d).name ≡ name_at (map dataset_of sources) index
read_name [] index d within = absurd (omega (arith, within))
read_name (source ∷ sources) zero d within = refl
read_name (source ∷ sources) (suc index) d within = read_name sources index d (omega (arith, within))

-- a place that was found
pub record IsPlace (name : List ℕ) (sources : List Named) (index : ℕ) : Type 0 where
  pub within : index < length sources
  pub named : name_at (map dataset_of sources) index ≡ name
  pub any : list_any (has_name name) sources ≡ true

pub placed : (name : List ℕ) (sources : List Named) (index : ℕ) → Some index ≡ position (has_name name) sources → IsPlace name sources index
placed name sources index e =
    let d : Named = record { name = []; rows = [] } in
    let found = position-Some (has_name name) sources index d (sym e) in
    record {
      within = found.0;
      named = sym (read_name sources index d found.0) ∙ (bytes_eq-Decides (get_or sources index d).name name).0 found.1;
      any = list_any_at (has_name name) sources index d found.0 found.1;
    }

none_from : (name : List ℕ) (at : ℕ) (sources : List Named) → position_from (has_name name) at sources ≡ None
    → list_any (has_name name) sources ≡ false
none_from name at [] e = refl
none_from name at (source ∷ sources) e = by_test (has_name name source) refl (none_from name (at + 1) sources)
  where
    by_test : (has : Bool) → has_name name source ≡ has
        → (position_from (has_name name) (at + 1) sources ≡ None → list_any (has_name name) sources ≡ false)
        → list_any (has_name name) (source ∷ sources) ≡ false
    by_test true is rest =
        let found : position_from (has_name name) at (source ∷ sources) ≡ Some at = rw is refl in
        absurd (cc)
    by_test false is rest =
        let left : position_from (has_name name) at (source ∷ sources) ≡ position_from (has_name name) (at + 1) sources = rw is refl in
        rw is (rest (sym left ∙ e))

pub not_placed : (name : List ℕ) (sources : List Named) → None ≡ position (has_name name) sources → list_any (has_name name) sources ≡ false
not_placed name sources e = none_from name 0 sources (sym (position_from-zero (has_name name) sources) ∙ sym e)

-- whether a name is among those of the sources
pub any_named : (name : List ℕ) (sources : List Named)
    → list_any (λ other. bytes_eq other name) (names_of (map dataset_of sources)) ≡ list_any (has_name name) sources
any_named name [] = refl
any_named name (source ∷ sources) = ap (λ others. bytes_eq source.name name || others) (any_named name sources)

-- what is put in place of the rows of a source
module _ (sources : List Named) (index : ℕ) (d : Named) (within : index < length sources) (new : List Keyed) where
  pub done_at : {E : Type 0} (edits : List Edit) (more : List Keyed) (result : Result Undo E)
      → IfOk result (λ undo. new ≡ edited edits (get_or sources index d).rows ++ more)
      → IfOk result (λ undo. set sources index (record { name = (get_or sources index d).name; rows = new })
      ≡ with_rows sources index (edited edits (rows_at sources index) ++ more))
  done_at edits more (Ok undo) h =
      put_rows sources index d new within
      ∙ ap (with_rows sources index) (h ∙ ap (λ rows. edited edits rows ++ more) (found_rows sources index d within))
  done_at edits more (Err e) h = tt

  pub back_at : {E : Type 0} (result : Result Undo E) → IfOk result (λ undo. taken_back undo new ≡ (get_or sources index d).rows)
      → (let now : List Named = set sources index (record { name = (get_or sources index d).name; rows = new }) in
      IfOk result (λ undo. with_rows now index (taken_back undo (rows_at now index)) ≡ sources))
  back_at (Ok undo) h =
      let put = put_rows sources index d new within in
      let rows = ap (taken_back undo) (rows_with sources index new within) ∙ h ∙ found_rows sources index d within in
      ap (λ now. with_rows now index (taken_back undo (rows_at now index))) put
      ∙ twice_with sources index new (taken_back undo (rows_at (with_rows sources index new) index))
      ∙ ap (with_rows sources index) rows ∙ same_rows sources index
  back_at (Err e) h = tt

-- a list that was written over whole
pub whole : (long : ℕ) (new old : List Named) → length new ≡ length old → long ≡ length old
    → take long (new ++ drop (length new) old) ≡ new
whole long new old same is =
    ap (λ rest. take long (new ++ rest)) (drop_all (length new) old (omega (arith, same))) ∙ ap (take long) (append-nil new)
    ∙ take_all long new (omega (arith, same, is))
