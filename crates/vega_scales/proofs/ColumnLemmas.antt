-- How the cells of rows are gathered.
use Rattle.std.proofs.Common.{◌≡◌, ℕ, ◌+◌, ◌<◌, ◌≤◌, ◌++◌, List, [], ◌∷◌, map, length, drop, get_or, sym, ap, ◌∙◌, arith}
use Rattle.std.specs.Borrow.{Bor}
use Rattle.std.proofs.lemmas.List.{append_assoc, append-nil, drop_all, drop_more, get_or-map, length-map}
use Rattle.cell_value.specs.declared.cell.Cell.{Cell}
use Rattle.cell_value.specs.declared.state.Keyed.{Keyed}
use Rattle.cell_value.specs.State.{greatest_id}
use Rattle.cell_value.specs.Datum.{datum_of, cell_at}
use Rattle.plain_rows.specs.Rows.{AreRows}
use Rattle.plain_rows.proofs.Keys as keys
use Rattle.domain_kit.specs.declared.keyed.Entry.{Entry}
use Rattle.vega_scales.specs.Domains.{column_of, entries_among}
use Rattle.vega_scales.specs.inner.RowEntries.{entry_at}

module _ (rows : List (Bor Keyed)) (i : ℕ) where
  -- the rows behind references
  abbrev behind : List Keyed
  behind = map (λ row. row.now) rows

  pub within : i < length rows → i < length behind
  within l = omega (arith, length-map rows (λ (row : Bor Keyed). row.now))

  pub past_all : length rows ≤ i → length behind ≤ i
  past_all l = omega (arith, length-map rows (λ (row : Bor Keyed). row.now))

  pub same_row : (row : Bor Keyed) → i < length rows → row ≡ get_or rows i row → row.now ≡ get_or behind i row.now
  same_row row l at =
      ap (λ (row : Bor Keyed). row.now) at ∙ sym (get_or-map (λ (row : Bor Keyed). row.now) rows i row row.now l)

  -- the id of each row is one that a row may have
  pub small_id : (row : Bor Keyed) → AreRows behind → i < length rows → row ≡ get_or rows i row → row.now.key.id ≤ greatest_id
  small_id row are l at = keys.small_id behind i row.now are (within l) (same_row row l at)

-- one cell more
pub column_more : (name : List ℕ) (rows : List Keyed) (i : ℕ) (row : Keyed) (cell : Cell) (out now whole : List Cell)
    → i < length rows → row ≡ get_or rows i row → cell ≡ cell_at row name → now ≡ out ++ cell ∷ []
    → out ++ column_of name (map datum_of (drop i rows)) ≡ whole → now ++ column_of name (map datum_of (drop (i + 1) rows)) ≡ whole
column_more name rows i row cell out now whole l at is pushed so_far =
    let rest : drop i rows ≡ row ∷ drop (i + 1) rows = drop_more rows i row l ∙ ap (λ x. x ∷ drop (i + 1) rows) (sym at) in
    ap (λ l. l ++ column_of name (map datum_of (drop (i + 1) rows))) (pushed ∙ ap (λ x. out ++ x ∷ []) is)
    ∙ append_assoc out (cell_at row name ∷ []) (column_of name (map datum_of (drop (i + 1) rows)))
    ∙ ap (λ d. out ++ column_of name (map datum_of d)) (sym rest)
    ∙ so_far

-- at the end all cells are there
pub column_all : (name : List ℕ) (rows : List Keyed) (i : ℕ) (out whole : List Cell) → length rows ≤ i
    → out ++ column_of name (map datum_of (drop i rows)) ≡ whole → out ≡ whole
column_all name rows i out whole past so_far =
    sym (append-nil out) ∙ ap (λ d. out ++ column_of name (map datum_of d)) (sym (drop_all i rows past)) ∙ so_far

-- one entry more
pub entry_more : (key value : List ℕ) (rows : List Keyed) (i : ℕ) (row : Keyed) (entry : Entry) (out now whole : List Entry)
    → i < length rows → row ≡ get_or rows i row → entry ≡ entry_at key value row → now ≡ out ++ entry ∷ []
    → out ++ entries_among key value (map datum_of (drop i rows)) ≡ whole
    → now ++ entries_among key value (map datum_of (drop (i + 1) rows)) ≡ whole
entry_more key value rows i row entry out now whole l at is pushed so_far =
    let rest : drop i rows ≡ row ∷ drop (i + 1) rows = drop_more rows i row l ∙ ap (λ x. x ∷ drop (i + 1) rows) (sym at) in
    ap (λ l. l ++ entries_among key value (map datum_of (drop (i + 1) rows))) (pushed ∙ ap (λ x. out ++ x ∷ []) is)
    ∙ append_assoc out (entry_at key value row ∷ []) (entries_among key value (map datum_of (drop (i + 1) rows)))
    ∙ ap (λ d. out ++ entries_among key value (map datum_of d)) (sym rest)
    ∙ so_far

-- at the end all entries are there
pub entries_all : (key value : List ℕ) (rows : List Keyed) (i : ℕ) (out whole : List Entry) → length rows ≤ i
    → out ++ entries_among key value (map datum_of (drop i rows)) ≡ whole → out ≡ whole
entries_all key value rows i out whole past so_far =
    sym (append-nil out) ∙ ap (λ d. out ++ entries_among key value (map datum_of d)) (sym (drop_all i rows past)) ∙ so_far
