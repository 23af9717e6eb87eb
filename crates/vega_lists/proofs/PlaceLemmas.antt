-- Which rows the names stand for once a name is put.
use Rattle.std.proofs.Common.{◌≡◌, ℕ, ◌+◌, ◌<◌, ◌≤◌, Bool, true, false, cond, if◌then◌else◌, List, [], ◌∷◌, ◌++◌, drop, map, length, get_or}
use Rattle.std.proofs.Common.{slice_get, Option, Some, None, unwrap_or, option_map, refl, sym, ap, ◌∙◌, subst, arith}
use Rattle.std.specs.Option.{option_map_or}
use Rattle.std.specs.BTreeMap as tree
use Rattle.std.specs.Map.{lookup}
use Rattle.std.specs.Ordering.{nat_cmp, is_eq}
use Rattle.std.specs.Cmp.Lexicographic.{slice_cmp}
use Rattle.std.specs.String.{string_cmp, string_bytes}
use Rattle.std.specs.Str.{bytes_eq}
use Rattle.std.proofs.Math.ListN.{get_or-append}
use Rattle.std.proofs.Math.Seq.{get_or-append_seam}
use Rattle.std.proofs.lemmas.List.{length-append, drop_more}
use Rattle.std.proofs.lemmas.Map.Text.{btree_map_updates_text}
use Rattle.std.proofs.lemmas.Option.{unwrap_or-slice_get, slice_get_read}
use Rattle.cell_value.specs.declared.state.Keyed.{Keyed}
use Rattle.cell_value.specs.declared.state.Named.{Named}
use Rattle.cell_value.specs.State.{dataset_of}
use Rattle.cell_value.specs.Datum.{Datum, datum_of}
use Rattle.plain_rows.specs.Rows.{AreRows, AreKeys}
use Rattle.vega_spec.specs.declared.data.DataSet.{DataSet}
use Rattle.vega_lists.specs.declared.held.RowsIn.{RowsIn}
use Rattle.vega_lists.specs.declared.held.RowsIn.TheVariants.{Source, Made, Nothing}
use Rattle.vega_lists.specs.declared.held.Lists.{Lists}
use Rattle.vega_lists.specs.Scopes.{list_named}
use Rattle.vega_lists.specs.Lists.{begun_rows}
use Rattle.vega_lists.specs.Held.{rows_there, place_named, scope_in}
use Rattle.vega_lists.specs.inner.Places.{Places, IsPut, IsThere, ArePlaced, ArePlacesOf, IsHeldAlso, begun_place, rows_begun}
use Rattle.vega_lists.proofs.KeyLemmas.{data_keys, keys_seen}

pick : (b : Bool) (place : RowsIn) (old : Option RowsIn) → unwrap_or (cond b (Some place) old) Nothing ≡ cond b place (unwrap_or old Nothing)
pick true place old = refl
pick false place old = refl

-- what an insertion puts
pub put_is : (bytes name : List ℕ) (old new : Places) (place : RowsIn) → bytes ≡ name
    → tree.UpdatesBy string_cmp (λ k. slice_cmp nat_cmp bytes (string_bytes k)) old new (Some place) → IsPut old name place new
put_is bytes name old new place same h other =
    btree_map_updates_text bytes old new (Some place) h other
    ∙ ap (λ n. cond (bytes_eq n other) (Some place) (tree.get_by_text old other)) same

-- where a name stands once a name is put
put_named : (old new : Places) (name : List ℕ) (place : RowsIn) → IsPut old name place new → (other : List ℕ)
    → place_named new other ≡ cond (bytes_eq name other) place (place_named old other)
put_named old new name place put other = ap (λ o. unwrap_or o Nothing) (put other) ∙ pick (bytes_eq name other) place (tree.get_by_text old other)

held_either : (f : RowsIn → List Keyed) (b : Bool) (place : RowsIn) (old : Option RowsIn)
    → option_map f (cond b (Some place) old) ≡ cond b (Some (f place)) (option_map f old)
held_either f true place old = refl
held_either f false place old = refl

there_either : (n : ℕ) (b : Bool) (p q : RowsIn) → IsThere n p → IsThere n q → IsThere n (cond b p q)
there_either n true p q x y = x
there_either n false p q x y = y

there_later : (n m : ℕ) (p : RowsIn) → n ≤ m → IsThere n p → IsThere m p
there_later n m (Source i) le h = tt
there_later n m (Made i) le h = omega (arith, h, le)
there_later n m Nothing le h = tt

module _ (sources : List Named) (old new : Lists) (name : List ℕ) where
  -- the rows in a place are held once the place is put
  pub held_put : (place : RowsIn) → new.made ≡ old.made → IsPut old.by_name name place new.by_name
      → IsHeldAlso sources old name (rows_there sources old.made place) new
  held_put place same put other =
      ap (λ made. option_map (rows_there sources made) (tree.get_by_text new.by_name other)) same
      ∙ ap (option_map (rows_there sources old.made)) (put other)
      ∙ held_either (rows_there sources old.made) (bytes_eq name other) place (tree.get_by_text old.by_name other)

  -- rows that were made behind others leave these where they are
  kept_there : (rows : List Keyed) (p : RowsIn) → IsThere (length old.made) p → rows_there sources (old.made ++ rows ∷ []) p ≡ rows_there sources old.made p
  kept_there rows (Source i) h = refl
  kept_there rows (Made i) h =
      unwrap_or-slice_get (old.made ++ rows ∷ []) i [] ∙ get_or-append old.made (rows ∷ []) [] i h ∙ sym (unwrap_or-slice_get old.made i [])
  kept_there rows Nothing h = refl

  made_there : (rows : List Keyed) → rows_there sources (old.made ++ rows ∷ []) (Made (length old.made)) ≡ rows
  made_there rows = unwrap_or-slice_get (old.made ++ rows ∷ []) (length old.made) [] ∙ get_or-append_seam old.made rows [] []

  made_either : (rows : List Keyed) (b : Bool) (o : Option RowsIn) → IsThere (length old.made) (unwrap_or o Nothing)
      → option_map (rows_there sources (old.made ++ rows ∷ [])) (cond b (Some (Made (length old.made))) o)
      ≡ cond b (Some rows) (option_map (rows_there sources old.made) o)
  made_either rows true o h = ap Some (made_there rows)
  made_either rows false None h = refl
  made_either rows false (Some p) h = ap Some (kept_there rows p h)

  -- rows that were made are held once their place is put
  pub held_made : (rows : List Keyed) → new.made ≡ old.made ++ rows ∷ [] → IsPut old.by_name name (Made (length old.made)) new.by_name → ArePlaced old
      → IsHeldAlso sources old name rows new
  held_made rows same put placed other =
      ap (λ made. option_map (rows_there sources made) (tree.get_by_text new.by_name other)) same
      ∙ ap (option_map (rows_there sources (old.made ++ rows ∷ []))) (put other)
      ∙ made_either rows (bytes_eq name other) (tree.get_by_text old.by_name other) (placed other)

module _ (old new : Lists) (name : List ℕ) where
  pub placed_put : (place : RowsIn) → new.made ≡ old.made → IsPut old.by_name name place new.by_name
      → IsThere (length old.made) place → ArePlaced old → ArePlaced new
  placed_put place same put there placed other =
      subst (λ made. IsThere (length made) (place_named new.by_name other)) (sym same)
      (subst (IsThere (length old.made)) (sym (put_named old.by_name new.by_name name place put other))
      (there_either (length old.made) (bytes_eq name other) place (place_named old.by_name other) there (placed other)))

  pub placed_made : (rows : List Keyed) → new.made ≡ old.made ++ rows ∷ []
      → IsPut old.by_name name (Made (length old.made)) new.by_name → ArePlaced old → ArePlaced new
  placed_made rows same put placed other =
      let more : length (old.made ++ rows ∷ []) ≡ length old.made + 1 = length-append old.made (rows ∷ []) in
      subst (λ made. IsThere (length made) (place_named new.by_name other)) (sym same)
      (subst (IsThere (length (old.made ++ rows ∷ []))) (sym (put_named old.by_name new.by_name name (Made (length old.made)) put other))
      (there_either (length (old.made ++ rows ∷ [])) (bytes_eq name other) (Made (length old.made)) (place_named old.by_name other) (omega (arith, more))
      (there_later (length old.made) (length (old.made ++ rows ∷ [])) (place_named old.by_name other) (omega (arith, more)) (placed other))))

-- what holds of the keys of rows as they are read holds of their keys
pub rows_as_read : (rows : List Keyed) → AreRows rows → AreKeys (data_keys (map datum_of rows))
rows_as_read rows are = subst AreKeys (sym (keys_seen rows)) are

pub rows_from_read : (rows : List Keyed) (read : List Datum) → map datum_of rows ≡ read → AreKeys (data_keys read) → AreRows rows
rows_from_read rows read e are = subst AreKeys (keys_seen rows) (subst (λ (l : List Datum). AreKeys (data_keys l)) (sym e) are)

-- no name stands for a place yet
pub no_places : (places : Places) → tree.IsEmpty places → (name : List ℕ) → place_named places name ≡ Nothing
no_places places e name = ap (λ entries. unwrap_or (lookup (λ k. is_eq (slice_cmp nat_cmp name (string_bytes k))) entries) Nothing) e

-- a source more, from the last to the first
pub record ArePlacesFrom (sources : List Named) (i : ℕ) (places : Places) : Type 0 where
  pub read : (made : List (List Keyed)) (name : List ℕ)
      → map datum_of (rows_there sources made (place_named places name)) ≡ list_named (map dataset_of (drop i sources)) name
  pub there : (n : ℕ) (name : List ℕ) → IsThere n (place_named places name)

named_either : (sources : List Named) (source : Named) (others : List Named) (i : ℕ) (made : List (List Keyed)) (b : Bool) (q : RowsIn) (name : List ℕ)
    → slice_get sources i ≡ Some source → map datum_of (rows_there sources made q) ≡ list_named (map dataset_of others) name
    → map datum_of (rows_there sources made (cond b (Source i) q)) ≡ (if b then map datum_of source.rows else list_named (map dataset_of others) name)
named_either sources source others i made true q name at e = ap (λ o. map datum_of (unwrap_or (option_map (λ (s : Named). s.rows) o) [])) at
named_either sources source others i made false q name at e = e

pub one_source : (sources : List Named) (i : ℕ) (source : Named) (old new : Places) → i < length sources → source ≡ get_or sources i source
    → ArePlacesFrom sources (i + 1) old → IsPut old source.name (Source i) new → ArePlacesFrom sources i new
one_source sources i source old new lt at from put = record {
  read = λ made name.
      ap (λ p. map datum_of (rows_there sources made p)) (put_named old new source.name (Source i) put name)
      ∙ named_either sources source (drop (i + 1) sources) i made (bytes_eq source.name name) (place_named old name) name
      (slice_get_read sources (length sources) i source refl lt at) (from.read made name)
      ∙ ap (λ (l : List Named). list_named (map dataset_of l) name)
      (sym (drop_more sources i source lt ∙ ap (λ (s : Named). s ∷ drop (i + 1) sources) (sym at)));
  there = λ n name. subst (IsThere n) (sym (put_named old new source.name (Source i) put name))
      (there_either n (bytes_eq source.name name) (Source i) (place_named old name) tt (from.there n name));
}

pub no_sources_yet : (sources : List Named) (places : Places) → tree.IsEmpty places → ArePlacesFrom sources (length sources) places
no_sources_yet sources places e = record {
  read = λ made name. ap (λ p. map datum_of (rows_there sources made p)) (no_places places e name)
      ∙ ap (λ (l : List Named). list_named (map dataset_of l) name) (sym (drop_all sources));
  there = λ n name. subst (IsThere n) (sym (no_places places e name)) tt;
}
  where
    drop_all : {X : Type 0} (xs : List X) → drop (length xs) xs ≡ []
    drop_all [] = refl
    drop_all (x ∷ xs) = drop_all xs

-- the rows with which a data set begins
pub begun_reads : (sources : List Named) (given : Places) (lists : Lists) (set : DataSet) → ArePlacesOf sources given
    → map datum_of (rows_begun sources given lists set) ≡ begun_rows (map dataset_of sources) (scope_in sources lists) set
begun_reads sources given lists set right = by_source set.source
  where
    by_source : (o : Option (List ℕ)) → map datum_of (rows_there sources lists.made (option_map_or (place_named lists.by_name) o (place_named given set.name)))
        ≡ option_map_or (scope_in sources lists) o (list_named (map dataset_of sources) set.name)
    by_source None = right.read lists.made set.name
    by_source (Some name) = refl

pub begun_there : (sources : List Named) (given : Places) (lists : Lists) (set : DataSet) → ArePlacesOf sources given → ArePlaced lists
    → IsThere (length lists.made) (begun_place given lists.by_name set)
begun_there sources given lists set right placed = by_source set.source
  where
    by_source : (o : Option (List ℕ)) → IsThere (length lists.made) (option_map_or (place_named lists.by_name) o (place_named given set.name))
    by_source None = right.there (length lists.made) set.name
    by_source (Some name) = placed name
