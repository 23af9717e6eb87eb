-- The sources of a state.
use Rattle.std.proofs.Common.{◌≡◌, ℕ, zero, suc, ◌+◌, ◌<◌, ◌≤◌, inl, List, [], ◌∷◌, ◌++◌, map, flat_map, length, get_or, All, AllPairs, refl, ap, subst, arith}
use Rattle.std.proofs.Math.ListN.{get_or-append}
use Rattle.std.proofs.lemmas.List.{length-append, length-map, get_or-map}
use Rattle.std.proofs.lemmas.List.Elements.{All-map}
use Rattle.cell_value.specs.declared.state.Key.{Key}
use Rattle.cell_value.specs.declared.state.Named.{Named}
use Rattle.cell_value.specs.declared.state.ChartState.{ChartState}
use Rattle.cell_value.specs.State.{Dataset, dataset_of, state_of, IsState, ids_of, greatest_id, most_rows}
use Rattle.cell_value.specs.Datum.{Datum, datum_of}
use Rattle.plain_rows.specs.Rows.{AreRows, AreKeys, IsBefore, keys_of}
use Rattle.vega_lists.specs.Products.{KeysFit}
use Rattle.vega_lists.specs.Held.{AreSources}
use Rattle.vega_lists.proofs.KeyLemmas.{data_keys, keys_seen}

front : {X : Type 0} (P : X → Type 0) (xs ys : List X) → All P (xs ++ ys) → All P xs
front P xs ys h k d lt = subst P (get_or-append xs ys d k lt) (h k d (omega (arith, length-append xs ys)))

back : {X : Type 0} (P : X → Type 0) (xs ys : List X) → All P (xs ++ ys) → All P ys
back P [] ys h = h
back P (x ∷ xs) ys h = back P xs ys (λ k d lt. h (suc k) d (omega arith))

all_back : {X Y : Type 0} (f : X → Y) (P : Y → Type 0) (xs : List X) → All P (map f xs) → All (λ x. P (f x)) xs
all_back f P xs h k d lt = subst P (get_or-map f xs k d (f d) lt) (h k (f d) (omega (arith, length-map xs f)))

ids_seen : (rows : List Datum) → ids_of rows ≡ map (λ (key : Key). key.id) (data_keys rows)
ids_seen [] = refl
ids_seen (row ∷ rows) = ap (λ (ids : List ℕ). row.key.id ∷ ids) (ids_seen rows)

keys_rise : (keys : List Key) → AllPairs (λ a b. a < b) (map (λ (key : Key). key.id) keys) → AllPairs IsBefore keys
keys_rise keys h i j d less lt =
    let id : Key → ℕ = λ key. key.id in
    let first : get_or (map id keys) i d.id ≡ (get_or keys i d).id = get_or-map id keys i d d.id (omega (arith, less, lt)) in
    let second : get_or (map id keys) j d.id ≡ (get_or keys j d).id = get_or-map id keys j d d.id lt in
    let rise = h i j d.id less (omega (arith, lt, length-map keys id)) in
    inl (omega (arith, first, second, rise))

-- what is known of a row of a state
record IsRow (next : ℕ) (row : Datum) : Type 0 where
  pub id : row.key.id < next
  pub branch : row.key.branch ≡ 0

module _ (next : ℕ) (least : next ≤ greatest_id + 1) where
  read_source : (rows : List Datum) → All (IsRow next) rows → length rows ≤ most_rows
      → AllPairs (λ a b. a < b) (ids_of rows) → AreKeys (data_keys rows) × KeysFit 1 (data_keys rows)
  read_source rows each few rise =
      let key : Datum → Key = λ row. row.key in (
        record {
          rise = keys_rise (data_keys rows) (subst (AllPairs (λ a b. a < b)) (ids_seen rows) rise);
          small_ids = All-map (λ (k : Key). k.id ≤ greatest_id) key rows (λ k d lt. let small = (each k d lt).id in omega (arith, small, least));
          few = omega (arith, few, length-map rows key);
        },
        record {
          few = omega (arith, few, length-map rows key);
          branches = All-map (λ (k : Key). k.branch < 1) key rows (λ k d lt. let none = (each k d lt).branch in omega (arith, none));
        },
      )

  one_source : (source : Named) → All (IsRow next) (map datum_of source.rows) → length (map datum_of source.rows) ≤ most_rows
      → AllPairs (λ a b. a < b) (ids_of (map datum_of source.rows)) → AreRows source.rows × KeysFit 1 (keys_of source.rows)
  one_source source each few rise =
      let (keys, fits) = read_source (map datum_of source.rows) each few rise in
      (subst AreKeys (keys_seen source.rows) keys, subst (KeysFit 1) (keys_seen source.rows) fits)

  each_source : (sources : List Named) → All (IsRow next) (flat_map (λ (source : Dataset). source.rows) (map dataset_of sources))
      → length (flat_map (λ (source : Dataset). source.rows) (map dataset_of sources)) ≤ most_rows
      → All (λ (source : Dataset). AllPairs (λ a b. a < b) (ids_of source.rows)) (map dataset_of sources) → AreSources sources
  each_source [] each few rise k d lt = absurd (omega (arith, lt))
  each_source (source ∷ others) each few rise zero d lt =
      let rows = map datum_of source.rows in
      let later = flat_map (λ (source : Dataset). source.rows) (map dataset_of others) in
      one_source source (front (IsRow next) rows later each) (omega (arith, few, length-append rows later)) (rise 0 (dataset_of source) (omega arith))
  each_source (source ∷ others) each few rise (suc k) d lt =
      let rows = map datum_of source.rows in
      let later = flat_map (λ (source : Dataset). source.rows) (map dataset_of others) in
      each_source others (back (IsRow next) rows later each) (omega (arith, few, length-append rows later))
      (λ i e below. rise (suc i) e (omega arith)) k d (omega (arith, lt))

-- the sources of a state are such as named lists ask of them
pub sources_of_state : (st : ChartState) → IsState (state_of st) → AreSources st.sources
sources_of_state st is =
    let rows = flat_map (λ (source : Dataset). source.rows) (map dataset_of st.sources) in
    let ids : All (λ (row : Datum). row.key.id < st.next_id) rows = all_back (λ (row : Datum). row.key.id) (λ id. id < st.next_id) rows is.ids_below_next in
    each_source st.next_id is.next_id_to st.sources (λ k d lt. record { id = ids k d lt; branch = is.no_branch k d lt }) is.few_rows is.ids_rise
