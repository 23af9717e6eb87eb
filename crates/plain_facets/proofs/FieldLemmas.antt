-- Keys of one cell, and keys by where their cells stand.
use Rattle.std.proofs.Common.{◌≡◌, ℕ, ◌+◌, Bool, true, false, cond, ◌||◌, List, [], ◌∷◌, ◌++◌, map, length, take, Option, Some, is_some, unwrap_or}
use Rattle.std.specs.Borrow.{Bor}
use Rattle.std.proofs.Common.{refl, sym, ap, ap₂, ◌∙◌, arith}
use Rattle.std.specs.Prelude.{slice_get}
use Rattle.std.specs.List.{enumerate_from, list_any, position_from}
use Rattle.std.specs.Ordering.{nat_cmp, ordering_then}
use Rattle.std.specs.declared.cmp.Ordering.{Ordering}
use Rattle.std.specs.Cmp.Lexicographic.{slice_cmp}
use Rattle.std.proofs.lemmas.List.{append_assoc, length-append, length-map}
use Rattle.cell_value.specs.declared.cell.Cell.{Cell}
use Rattle.cell_value.specs.declared.cell.Cell.TheVariants.{Null}
use Rattle.cell_value.specs.Cell.{cell_cmp, same_cells}
use Rattle.cell_value.specs.declared.state.Keyed.{Keyed}
use Rattle.cell_value.specs.Datum.{Datum, cell_at}
use Rattle.tick_kit.specs.Domains.{ascending}
use Rattle.plain_groups.specs.Groups.{firsts, firsts_behind}
use Rattle.plain_groups.proofs.PlaceLemmas.{lone_keys}
use Rattle.plain_facets.specs.Rows.{data_of}
use Rattle.plain_facets.specs.inner.Besides.{alike_pairs, pair_shown}
use Rattle.plain_facets.specs.inner.Places.{first_place, key_shown, keys_shown}
use Rattle.plain_facets.proofs.ListLemmas.{key_seen}
use Rattle.plain_facets.specs.Facets.{key_of, is_key, distinct_keys, cells_in, pairs_in, home_among, place_among, places_among, by_places}
use Rattle.plain_facets.specs.inner.Ranks.{cell_of_key, column_of, row_of, ranked}
use Rattle.plain_facets.proofs.OrderLemmas.{ascending_alike, map_after, map_itself}

abbrev one : Cell → List Cell
one cell = cell ∷ []

any_one : (c : Cell) (cs : List Cell) → list_any (λ other. is_key other (one c)) (map one cs) ≡ list_any (λ other. same_cells other c) cs
any_one c [] = refl
any_one c (d ∷ ds) = ap₂ (λ a b. a || b) (lone_keys d c) (any_one c ds)

pushed : (before : List Cell) (c : Cell) → map one before ++ one c ∷ [] ≡ map one (before ++ c ∷ [])
pushed [] c = refl
pushed (b ∷ bs) c = ap (λ l. one b ∷ l) (pushed bs c)

firsts_alone : (before cs : List Cell) → firsts_behind is_key (map one before) (map one cs) ≡ map one (firsts_behind same_cells before cs)
firsts_alone before [] = refl
firsts_alone before (c ∷ cs) =
    ap (λ l. cond (list_any (λ other. is_key other (one c)) (map one before))
    (firsts_behind is_key l (map one cs)) (one c ∷ firsts_behind is_key l (map one cs))) (pushed before c)
    ∙ pick (list_any (λ other. is_key other (one c)) (map one before)) (list_any (λ other. same_cells other c) before) (any_one c before)
    (firsts_alone (before ++ c ∷ []) cs)
  where
    pick : (a b : Bool) → a ≡ b → firsts_behind is_key (map one (before ++ c ∷ [])) (map one cs) ≡ map one (firsts_behind same_cells (before ++ c ∷ []) cs)
        → cond a (firsts_behind is_key (map one (before ++ c ∷ [])) (map one cs)) (one c ∷ firsts_behind is_key (map one (before ++ c ∷ [])) (map one cs))
        ≡ map one (cond b (firsts_behind same_cells (before ++ c ∷ []) cs) (c ∷ firsts_behind same_cells (before ++ c ∷ []) cs))
    pick true true e h = h
    pick true false e h = absurd (cc)
    pick false true e h = absurd (cc)
    pick false false e h = ap (λ l. one c ∷ l) h

-- the first cells of different keys of one cell are the different cells
pub first_cells_are : (field : List ℕ) (rows : List Datum)
    → map (λ key. unwrap_or (slice_get key 0) Null) (distinct_keys (map (key_of (field ∷ [])) rows)) ≡ firsts same_cells (cells_in field rows)
first_cells_are field rows =
    ap (λ keys. map (λ key. unwrap_or (slice_get key 0) Null) (distinct_keys keys)) (sym (map_after (λ (row : Datum). row.cell field) one rows))
    ∙ ap (map (λ key. unwrap_or (slice_get key 0) Null)) (firsts_alone [] (cells_in field rows))
    ∙ map_after one (λ key. unwrap_or (slice_get key 0) Null) (firsts same_cells (cells_in field rows))
    ∙ map_itself (firsts same_cells (cells_in field rows))

place_alone : (c : Cell) (i : ℕ) (cs : List Cell)
    → position_from (λ other. is_key other (one c)) i (map one cs) ≡ position_from (λ other. same_cells other c) i cs
place_alone c i [] = refl
place_alone c i (d ∷ ds) = ap₂ (λ b o. cond b (Some i) o) (lone_keys d c) (place_alone c (i + 1) ds)

home_alone : (cells : List Cell) (c : Cell) → home_among (map one cells) (one c) ≡ place_among cells c
home_alone cells c = ap₂ unwrap_or (place_alone c 0 cells) (length-map cells one)

-- where keys of one cell stand among such keys
pub column_is : (keys : List (List Cell)) (at : ℕ) (cells : List Cell)
    → map (home_among (map (λ cell. cell ∷ []) cells)) (map (λ key. cell_of_key at key ∷ []) keys) ≡ column_of keys (at, cells)
column_is keys at cells =
    map_after (λ key. one (cell_of_key at key)) (home_among (map one cells)) keys
    ∙ ap (λ (f : List Cell → ℕ). map f keys) (λ i key. home_alone cells (cell_of_key at key) i)

mapped_at : {X : Type 0} (g : X → ℕ) (before : List X) (x : X) (rest : List X) → unwrap_or (slice_get (map g (before ++ x ∷ rest)) (length before)) 0 ≡ g x
mapped_at g [] x rest = refl
mapped_at g (b ∷ bs) x rest = mapped_at g bs x rest

module _ (fields : List (List Cell)) where
  abbrev columns : List (List Cell) → List (List ℕ)
  columns keys = map (column_of keys) (enumerate_from 0 fields)

  abbrev behind : List Cell → List ℕ × List Cell
  behind key = (places_among fields key, key)

  row_is : (before : List (List Cell)) (key : List Cell) (rest : List (List Cell))
      → row_of (columns (before ++ key ∷ rest)) (length before) ≡ places_among fields key
  row_is before key rest =
      map_after (column_of (before ++ key ∷ rest)) (λ column. unwrap_or (slice_get column (length before)) 0) (enumerate_from 0 fields)
      ∙ ap (λ (f : ℕ × List Cell → ℕ). map f (enumerate_from 0 fields))
      (λ i field. mapped_at (λ k. place_among field.1 (cell_of_key field.0 k)) before key rest i)

  rows_are : (keys before rest : List (List Cell)) (n : ℕ) → keys ≡ before ++ rest → n ≡ length before
      → map (ranked (columns keys)) (enumerate_from n rest) ≡ map behind rest
  rows_are keys before [] n e at = refl
  rows_are keys before (key ∷ rest) n e at =
      ap₂ (λ row rows. (row, key) ∷ rows) (ap₂ (λ ks i. row_of (columns ks) i) e at ∙ row_is before key rest)
      (rows_are keys (before ++ key ∷ []) rest (n + 1) (e ∙ sym (append_assoc before (key ∷ []) rest)) (omega (arith, at, length-append before (key ∷ []))))

  abbrev order : List ℕ × List Cell → List ℕ × List Cell → Ordering
  order x y = ordering_then (slice_cmp nat_cmp x.0 y.0) (slice_cmp cell_cmp x.1 y.1)

  -- keys behind their places, put in order, are the keys in order
  module _ {P : Type 0} (seen : P → List ℕ × List Cell) (keys : List (List Cell)) where
    pub in_places_gives : (made found : List P) (out : List (List Cell)) → map seen made ≡ map (ranked (columns keys)) (enumerate_from 0 keys)
        → found ≡ ascending (λ x y. order (seen x) (seen y)) made → out ≡ map (λ p. (seen p).1) found → out ≡ ascending (by_places fields) keys
    in_places_gives made found out ranks sorted is =
        is ∙ sym (map_after seen (λ (pair : List ℕ × List Cell). pair.1) found)
        ∙ ap (λ l. map (λ (pair : List ℕ × List Cell). pair.1) (map seen l)) sorted
        ∙ ap (map (λ (pair : List ℕ × List Cell). pair.1))
        (ascending_alike (λ x y. order (seen x) (seen y)) order seen (λ a b. refl) made
        ∙ ap (ascending order) (ranks ∙ rows_are keys [] keys 0 refl refl)
        ∙ sym (ascending_alike (by_places fields) order behind (λ a b. refl) keys))
        ∙ map_after behind (λ (pair : List ℕ × List Cell). pair.1) (ascending (by_places fields) keys)
        ∙ map_itself (ascending (by_places fields) keys)

-- the cells of rows behind references in two fields are those of the rows as they are read
pub pairs_are_shown : (field other : List ℕ) (rows : List (Bor Keyed)) → map (pair_shown field other) rows ≡ pairs_in field other (data_of rows)
pairs_are_shown field other [] = refl
pairs_are_shown field other (row ∷ rows) = ap (λ l. pair_shown field other row ∷ l) (pairs_are_shown field other rows)

any_pair : (field other : List ℕ) (row : Bor Keyed) (rows : List (Bor Keyed))
    → list_any (λ key. is_key key (key_shown (field ∷ []) row)) (keys_shown (field ∷ []) rows)
    ≡ list_any (λ pair. alike_pairs pair (pair_shown field other row)) (map (pair_shown field other) rows)
any_pair field other row [] = refl
any_pair field other row (r ∷ rs) = ap₂ (λ a b. a || b) (lone_keys (cell_at r.now field) (cell_at row.now field)) (any_pair field other row rs)

-- a key of one field that had a place is that of a pair before it
pub pair_seen : (field other : List ℕ) (rows : List (Bor Keyed)) (i : ℕ) (row : Bor Keyed) (key : List Cell) (had : Option ℕ) → key ≡ key_shown (field ∷ []) row
    → had ≡ first_place (keys_shown (field ∷ []) (take i rows)) key
    → is_some had ≡ list_any (λ pair. alike_pairs pair (pair_shown field other row)) (map (pair_shown field other) (take i rows))
pair_seen field other rows i row key had is had_is =
    key_seen (keys_shown (field ∷ []) (take i rows)) key (key_shown (field ∷ []) row) had is had_is ∙ any_pair field other row (take i rows)
