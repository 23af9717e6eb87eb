-- The rows of copies, by their places.
use Rattle.std.proofs.Common.{◌≡◌, ℕ, suc, ◌+◌, ◌<◌, ◌≤◌, Bool, true, false, cond, List, [], ◌∷◌, ◌++◌, map, filter_map, length, drop}
use Rattle.std.proofs.Common.{get_or, slice_get, eqb, Option, Some, None, option_to_list, All, refl, sym, ap, ap₂, subst, ◌∙◌, arith}
use Rattle.std.specs.Borrow.{Bor}
use Rattle.std.specs.List.{cons_option}
use Rattle.std.proofs.lemmas.Option.{slice_get-get_or}
use Rattle.std.proofs.lemmas.List.{append_assoc, append-nil, drop_all, drop_more}
use Rattle.std.proofs.lemmas.List.Elements.{filter_agree, All-filter, All-map}
use Rattle.cell_value.specs.declared.cell.Cell.{Cell}
use Rattle.cell_value.specs.declared.state.Keyed.{Keyed}
use Rattle.cell_value.specs.Datum.{Datum, datum_of}
use Rattle.cell_value.specs.State.{greatest_id}
use Rattle.plain_rows.specs.Rows.{AreRows, AreKeys, keys_of}
use Rattle.plain_facets.specs.Facets.{key_of, is_key, part_of, home_among, members_from, AreDifferent}
use Rattle.plain_facets.specs.Laws.{keys_read}
use Rattle.plain_facets.specs.Rows.{data_of, HaveIds, rows_shown, part_shown}
use Rattle.plain_facets.proofs.OrderLemmas.{map_after}
use Rattle.plain_facets.proofs.DifferentLemmas.{each_is_at_home}
use Rattle.plain_facets.proofs.PartLaw.{rows_at_home, at_home, parts_are_rows}

-- a row more, if there is one
one_more : {X : Type 0} (o : Option X) (out later : List X) → (out ++ option_to_list o) ++ later ≡ out ++ cons_option o later
one_more None out later = ap (λ l. l ++ later) (append-nil out)
one_more (Some x) out later = append_assoc out (x ∷ []) later

-- what one place more gives
pub rows_more : {X : Type 0} (rows : List X) (places : List ℕ) (i d : ℕ) (out now whole : List X) → i < length places
    → now ≡ out ++ option_to_list (slice_get rows (get_or places i d)) → out ++ filter_map (slice_get rows) (drop i places) ≡ whole
    → now ++ filter_map (slice_get rows) (drop (i + 1) places) ≡ whole
rows_more rows places i d out now whole within is so_far =
    ap (λ l. l ++ filter_map (slice_get rows) (drop (i + 1) places)) is
    ∙ one_more (slice_get rows (get_or places i d)) out (filter_map (slice_get rows) (drop (i + 1) places))
    ∙ ap (λ l. out ++ filter_map (slice_get rows) l) (sym (drop_more places i d within))
    ∙ so_far

-- at the end all are there
pub rows_all : {X : Type 0} (rows : List X) (places : List ℕ) (i : ℕ) (out whole : List X) → length places ≤ i
    → out ++ filter_map (slice_get rows) (drop i places) ≡ whole → out ≡ whole
rows_all rows places i out whole past so_far =
    sym (append-nil out) ∙ ap (λ d. out ++ filter_map (slice_get rows) d) (sym (drop_all i places past)) ∙ so_far

-- lists of the same length that give the same at each place
alike_at_places : {X Y Z : Type 0} (f : X → Z) (g : Y → Z) (xs : List X) (ys : List Y) (x : X) (y : Y) → length xs ≡ length ys
    → ((k : ℕ) → k < length ys → f (get_or xs k x) ≡ g (get_or ys k y)) → map f xs ≡ map g ys
alike_at_places f g [] [] x y long same = refl
alike_at_places f g [] (b ∷ bs) x y long same = absurd (omega (arith, long))
alike_at_places f g (a ∷ as_) [] x y long same = absurd (omega (arith, long))
alike_at_places f g (a ∷ as_) (b ∷ bs) x y long same =
    ap₂ (λ c cs. c ∷ cs) (same 0 (omega arith)) (alike_at_places f g as_ bs x y (omega (arith, long)) (λ k below. same (suc k) (omega (arith, below))))

module _ (fields : List (List ℕ)) (rows : List (Bor Keyed)) (copies : List (List Cell)) where
  abbrev home : Bor Keyed → ℕ
  home row = home_among copies (key_of fields (datum_of row.now))

  -- the rows at the places of a copy are those that have its cells
  pub part_there : AreDifferent copies → (k : ℕ) → k < length copies
      → filter_map (slice_get rows) (members_from k 0 (map home rows)) ≡ part_shown fields (get_or copies k []) rows
  part_there different k below =
      let there : slice_get copies k ≡ Some (get_or copies k []) = slice_get-get_or copies k [] below in
      rows_at_home rows home k 0 [] rows refl refl
      ∙ filter_agree (λ (row : Bor Keyed). eqb (home row) k) (λ (row : Bor Keyed). is_key (key_of fields (datum_of row.now)) (get_or copies k []))
      (λ row. at_home fields copies k (get_or copies k []) there (each_is_at_home copies k (get_or copies k []) different there) (datum_of row.now)) rows

  -- so are those of all copies
  pub parts_there : (homes : List ℕ) (lists : List (List ℕ)) (out : List (List (Bor Keyed))) → AreDifferent copies
      → homes ≡ map home rows → length lists ≡ length copies
      → ((k : ℕ) → k < length copies → get_or lists k [] ≡ members_from k 0 homes) → out ≡ map (filter_map (slice_get rows)) lists
      → out ≡ map (λ key. part_shown fields key rows) copies
  parts_there homes lists out different at_homes long members is =
      is
      ∙ alike_at_places (filter_map (slice_get rows)) (λ key. part_shown fields key rows) lists copies [] [] long
      (λ k below. ap (filter_map (slice_get rows)) (members k below ∙ ap (members_from k 0) at_homes) ∙ part_there different k below)

module _ (fields : List (List ℕ)) where
  -- what is read of a part
  part_read : (key : List Cell) (rows : List (Bor Keyed)) → data_of (part_shown fields key rows) ≡ part_of fields key (data_of rows)
  part_read key [] = refl
  part_read key (row ∷ rows) = pick (is_key (key_of fields (datum_of row.now)) key) (part_read key rows)
    where
      pick : (b : Bool) → data_of (part_shown fields key rows) ≡ part_of fields key (data_of rows)
          → data_of (cond b (row ∷ part_shown fields key rows) (part_shown fields key rows))
          ≡ cond b (datum_of row.now ∷ part_of fields key (data_of rows)) (part_of fields key (data_of rows))
      pick true h = ap (λ l. datum_of row.now ∷ l) h
      pick false h = h

  pub parts_read : (copies : List (List Cell)) (rows : List (Bor Keyed)) (parts : List (List (Bor Keyed)))
      → parts ≡ map (λ key. part_shown fields key rows) copies
      → map data_of parts ≡ map (λ key. part_of fields key (data_of rows)) copies
  parts_read copies rows parts are =
      ap (map data_of) are ∙ map_after (λ key. part_shown fields key rows) data_of copies
      ∙ ap (λ (f : List Cell → List Datum). map f copies) (λ i key. part_read key rows i)

  pub parts_have_ids : (copies : List (List Cell)) (rows : List (Bor Keyed)) (parts : List (List (Bor Keyed))) → HaveIds rows
      → parts ≡ map (λ key. part_shown fields key rows) copies → All HaveIds parts
  parts_have_ids copies rows parts have are =
      subst (All HaveIds) (sym are) (All-map HaveIds (λ key. part_shown fields key rows) copies
      (λ k key below. All-filter (λ (row : Bor Keyed). is_key (key_of fields (datum_of row.now)) (get_or copies k key))
      (λ (row : Bor Keyed). row.now.key.id ≤ greatest_id) rows have))

same_keys : (rows : List (Bor Keyed)) → keys_read (data_of rows) ≡ keys_of (rows_shown rows)
same_keys [] = refl
same_keys (row ∷ rows) = ap (λ l. row.now.key ∷ l) (same_keys rows)

-- a part of a list of rows is a list of rows, where references show both
pub part_shown_are_rows : (fields : List (List ℕ)) (key : List Cell) (rows part : List (Bor Keyed)) → data_of part ≡ part_of fields key (data_of rows)
    → AreRows (rows_shown rows) → AreRows (rows_shown part)
part_shown_are_rows fields key rows part read are =
    subst AreKeys (ap keys_read (sym read) ∙ same_keys part) (parts_are_rows fields key (data_of rows) (subst AreKeys (sym (same_keys rows)) are))
