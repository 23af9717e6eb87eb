-- Copies of groups, their rows, and what holds of each.
use Rattle.std.proofs.Common.{◌≡◌, ℕ, zero, suc, ◌+◌, ◌<◌, ◌≤◌, min, Bool, true, false, cond, Option, Some, None, List, [], ◌∷◌, ◌++◌, map}
use Rattle.std.proofs.Common.{filter, flat_map, zip, length, get_or, drop, slice_get, unwrap_or, All, refl, sym, ap, ap₂, ◌∙◌, subst, arith}
use Rattle.std.specs.Borrow.{Bor}
use Rattle.std.specs.List.{enumerate_from}
use Rattle.std.specs.Option.{option_map, option_map_or}
use Rattle.std.specs.Str.{bytes_eq}
use Rattle.std.proofs.lemmas.Bool.{cond_both}
use Rattle.std.proofs.lemmas.Option.{slice_get-map}
use Rattle.std.proofs.lemmas.List.{append_assoc, append-nil, drop_more, length-append, map-append}
use Rattle.std.proofs.lemmas.List.Elements.{All-cons, All-head, All-tail, All-append}
use Rattle.cell_value.specs.declared.cell.Cell.{Cell}
use Rattle.cell_value.specs.declared.state.Key.{Key}
use Rattle.cell_value.specs.declared.state.Keyed.{Keyed}
use Rattle.cell_value.specs.declared.state.Named.{Named}
use Rattle.cell_value.specs.Datum.{Datum, datum_of}
use Rattle.cell_value.specs.State.{Dataset, dataset_of, greatest_id}
use Rattle.plain_rows.specs.Rows.{AreRows, AreKeys, keys_of}
use Rattle.plain_facets.specs.Facets.{part_of, is_key, key_of, cells_of_copies, cells_with_rows}
use Rattle.plain_facets.specs.Rows.{data_of, HaveIds}
use Rattle.plain_facets.specs.Laws.{keys_read}
use Rattle.plain_facets.proofs.PartLaw.{parts_are_rows}
use Rattle.vega_spec.specs.declared.marks.Facet.{Facet}
use Rattle.vega_spec.specs.declared.spec.Group.{Group}
use Rattle.vega_spec.specs.declared.spec.VgMark.{VgMark, VgMark-F}
use Rattle.vega_lists.specs.Orders.{texts_in}
use Rattle.vega_lists.specs.Scopes.{Scope}
use Rattle.vega_lists.specs.Held.{scope_read, AreAllRows}
use Rattle.vega_lists.specs.Inside.{RowsByName, AllKeysFit}
use Rattle.vega_lists.specs.Products.{Products, KeysFit}
use Rattle.vega_copies.specs.declared.copies.CopyOf.{CopyOf}
use Rattle.vega_copies.specs.declared.names.NamesAt.{NamesAt}
use Rattle.vega_copies.specs.Outlines.{facet_in}
use Rattle.vega_copies.specs.Facets.{Copy, part_named, copy_with, only_copy, copies_of, divided_by, rows_divided}
use Rattle.vega_copies.specs.Fitting.{with_part_products, products_in_copy}
use Rattle.vega_copies.specs.inner.Counted.{copies_with_rows}
use Rattle.vega_copies.specs.inner.Levels.{rows_at, rows_behind, parts_over, AreNames, AreParts}
use Rattle.vega_copies.specs.inner.Outlined.{group_object}
use Rattle.vega_copies.specs.inner.Copied.{copy_seen, scope_at, copy_at, parts_at, parts_read, IsCopy}
use Rattle.vega_copies.proofs.ProductLemmas.{pairs_from, no_more_pairs}

-- ---- lists

first_same : {X : Type 0} (x y : X) (xs ys : List X) → x ∷ xs ≡ y ∷ ys → x ≡ y
first_same x y xs ys e = cc

others_same : {X : Type 0} (x y : X) (xs ys : List X) → x ∷ xs ≡ y ∷ ys → xs ≡ ys
others_same x y xs ys e = cc

-- an element that is there, whatever else would stand for it
pub there : {X : Type 0} (xs : List X) (i : ℕ) (d e : X) → i < length xs → get_or xs i d ≡ get_or xs i e
there [] i d e h = absurd (omega (arith, h))
there (x ∷ xs) zero d e h = refl
there (x ∷ xs) (suc i) d e h = there xs i d e (omega (arith, h))

-- one pair of two lists more
pub pair_more : {X Y Z : Type 0} (f : X × Y → Z) (xs : List X) (ys : List Y) (at : ℕ) (x : X) (y : Y) (old now whole : List Z)
    → at < length xs → at < length ys → x ≡ get_or xs at x → y ≡ get_or ys at y → now ≡ old ++ f (x, y) ∷ []
    → old ++ map f (drop at (zip xs ys)) ≡ whole → now ++ map f (drop (at + 1) (zip xs ys)) ≡ whole
pair_more f xs ys at x y old now whole h k is_x is_y pushed so_far =
    let next : at + 1 ≡ suc at = omega arith in
    ap (λ l. l ++ map f (drop (at + 1) (zip xs ys))) pushed
    ∙ append_assoc old (f (x, y) ∷ []) (map f (drop (at + 1) (zip xs ys)))
    ∙ (λ i. old ++ f (is_x i, is_y i) ∷ map f (drop (next i) (zip xs ys)))
    ∙ ap (λ pairs. old ++ map f pairs) (sym (pairs_from xs ys at x y h k))
    ∙ so_far

pub cell_more : {X Y : Type 0} (xs : List X) (ys : List Y) (at : ℕ) (x : X) (y : Y) (old now whole : List (X × Y))
    → at < length xs → at < length ys → x ≡ get_or xs at x → y ≡ get_or ys at y → now ≡ old ++ (x, y) ∷ []
    → old ++ drop at (zip xs ys) ≡ whole → now ++ drop (at + 1) (zip xs ys) ≡ whole
cell_more xs ys at x y old now whole h k is_x is_y pushed so_far =
    let next : at + 1 ≡ suc at = omega arith in
    ap (λ l. l ++ drop (at + 1) (zip xs ys)) pushed
    ∙ append_assoc old ((x, y) ∷ []) (drop (at + 1) (zip xs ys))
    ∙ (λ i. old ++ (is_x i, is_y i) ∷ drop (next i) (zip xs ys))
    ∙ ap (λ pairs. old ++ pairs) (sym (pairs_from xs ys at x y h k))
    ∙ so_far

-- where one of two lists has ended, no pair is left
pub pairs_ended : {X Y Z : Type 0} (f : X × Y → Z) (xs : List X) (ys : List Y) (at : ℕ) (out whole : List Z) → min (length xs) (length ys) ≤ at
    → out ++ map f (drop at (zip xs ys)) ≡ whole → out ≡ whole
pairs_ended f xs ys at out whole end is =
    sym (append-nil out) ∙ ap (λ pairs. out ++ map f pairs) (sym (no_more_pairs xs ys at end)) ∙ is

pub cells_ended : {X Y : Type 0} (xs : List X) (ys : List Y) (at : ℕ) (out whole : List (X × Y)) → min (length xs) (length ys) ≤ at
    → out ++ drop at (zip xs ys) ≡ whole → out ≡ whole
cells_ended xs ys at out whole end is =
    sym (append-nil out) ∙ ap (λ pairs. out ++ pairs) (sym (no_more_pairs xs ys at end)) ∙ is

-- one numbered element more
pub numbered_more : {X Y : Type 0} (f : ℕ × X → Y) (xs : List X) (i : ℕ) (x : X) (old now whole : List Y) → i < length xs
    → x ≡ get_or xs i x → now ≡ old ++ f (i, x) ∷ [] → old ++ map f (enumerate_from i (drop i xs)) ≡ whole
    → now ++ map f (enumerate_from (i + 1) (drop (i + 1) xs)) ≡ whole
numbered_more f xs i x old now whole within at pushed so_far =
    let rest : drop i xs ≡ x ∷ drop (i + 1) xs = drop_more xs i x within ∙ ap (λ z. z ∷ drop (i + 1) xs) (sym at) in
    ap (λ l. l ++ map f (enumerate_from (i + 1) (drop (i + 1) xs))) pushed
    ∙ append_assoc old (f (i, x) ∷ []) (map f (enumerate_from (i + 1) (drop (i + 1) xs)))
    ∙ ap (λ d. old ++ map f (enumerate_from i d)) (sym rest)
    ∙ so_far

-- one element more
pub shown_more : {X Y : Type 0} (f : X → Y) (xs : List X) (i : ℕ) (x : X) (old now whole : List Y) → i < length xs
    → x ≡ get_or xs i x → now ≡ old ++ f x ∷ [] → old ++ map f (drop i xs) ≡ whole → now ++ map f (drop (i + 1) xs) ≡ whole
shown_more f xs i x old now whole within at pushed so_far =
    let rest : drop i xs ≡ x ∷ drop (i + 1) xs = drop_more xs i x within ∙ ap (λ z. z ∷ drop (i + 1) xs) (sym at) in
    ap (λ l. l ++ map f (drop (i + 1) xs)) pushed
    ∙ append_assoc old (f x ∷ []) (map f (drop (i + 1) xs))
    ∙ ap (λ d. old ++ map f d) (sym rest)
    ∙ so_far

-- ---- rows behind references

pub data_behind : (rows : List (Bor Keyed)) → data_of rows ≡ map datum_of (rows_behind rows)
data_behind [] = refl
data_behind (row ∷ rows) = ap (λ l. datum_of row.now ∷ l) (data_behind rows)

pub ids_of_keys : (rows : List (Bor Keyed)) → All (λ (key : Key). key.id ≤ greatest_id) (keys_of (rows_behind rows)) → HaveIds rows
ids_of_keys [] h = λ k d lt. absurd (omega (arith, lt))
ids_of_keys (row ∷ rows) h =
    All-cons (λ (r : Bor Keyed). r.now.key.id ≤ greatest_id) row rows
    (All-head (λ (key : Key). key.id ≤ greatest_id) row.now.key (keys_of (rows_behind rows)) h)
    (ids_of_keys rows (All-tail (λ (key : Key). key.id ≤ greatest_id) row.now.key (keys_of (rows_behind rows)) h))

pub rows_have_ids : (rows : List (Bor Keyed)) (held : List Keyed) → rows_behind rows ≡ held → AreRows held → HaveIds rows
rows_have_ids rows held is are = ids_of_keys rows (subst AreRows (sym is) are).small_ids

-- one list more
pub divided_more : (scope : Scope) (lists : List (List ℕ)) (i : ℕ) (list : List ℕ) (old now whole : List Datum) → i < length lists
    → list ≡ get_or lists i list → now ≡ old ++ scope list → old ++ flat_map scope (drop i lists) ≡ whole
    → now ++ flat_map scope (drop (i + 1) lists) ≡ whole
divided_more scope lists i list old now whole within at is so_far =
    let rest : drop i lists ≡ list ∷ drop (i + 1) lists = drop_more lists i list within ∙ ap (λ z. z ∷ drop (i + 1) lists) (sym at) in
    ap (λ l. l ++ flat_map scope (drop (i + 1) lists)) is
    ∙ append_assoc old (scope list) (flat_map scope (drop (i + 1) lists))
    ∙ ap (λ d. old ++ flat_map scope d) (sym rest)
    ∙ so_far

-- the rows of one list more
pub data_more : (old more now : List (Bor Keyed)) (read : List Datum) → now ≡ old ++ more → data_of more ≡ read → data_of now ≡ data_of old ++ read
data_more old more now read is reads =
    ap data_of is ∙ map-append (λ (row : Bor Keyed). datum_of row.now) old more ∙ ap (λ rows. data_of old ++ rows) reads

pub ids_more : (old more now : List (Bor Keyed)) → now ≡ old ++ more → HaveIds old → HaveIds more → HaveIds now
ids_more old more now is a b =
    subst HaveIds (sym is) (All-append (λ (r : Bor Keyed). r.now.key.id ≤ greatest_id) old more a b)

-- ---- the parts of copies

-- the copy with some cells, by the rows of lists under other names
abbrev copy_from : NamesAt → List (List ℕ) → List (List ℕ) → List (List ℕ) → List Cell → Copy
copy_from names fields own lists key = record {
  cells = Some (zip fields key);
  parts = map (λ (named : List ℕ × List ℕ). record { name = named.0; rows = part_of fields key (scope_at names named.1) }) (zip own lists);
}

module _ (names : NamesAt) (fields : List (List ℕ)) (keys : List (List Cell)) where
  -- the rows that a list has in a copy
  part_here : (i : ℕ) (key : List Cell) (table : List (List (Bor Keyed))) (list : List ℕ) → slice_get keys i ≡ Some key
      → map data_of table ≡ parts_read names fields keys list
      → map datum_of (rows_behind (unwrap_or (slice_get table i) [])) ≡ part_of fields key (scope_at names list)
  part_here i key table list there are =
      sym (data_behind (unwrap_or (slice_get table i) []))
      ∙ inside (slice_get table i)
      ∙ ap (λ o. unwrap_or o [])
      (sym (slice_get-map data_of table i) ∙ ap (λ l. slice_get l i) are ∙ slice_get-map (λ key. part_of fields key (scope_at names list)) keys i)
      ∙ ap (λ o. unwrap_or (option_map (λ key. part_of fields key (scope_at names list)) o) []) there
    where
      inside : (o : Option (List (Bor Keyed))) → data_of (unwrap_or o []) ≡ unwrap_or (option_map data_of o) []
      inside None = refl
      inside (Some rows) = refl

  parts_here : (i : ℕ) (key : List Cell) → slice_get keys i ≡ Some key → (own : List (List ℕ)) (tables : List (List (List (Bor Keyed)))) (lists : List (List ℕ))
      → map (map data_of) tables ≡ map (parts_read names fields keys) lists
      → map dataset_of (parts_at i own tables)
      ≡ map (λ (named : List ℕ × List ℕ). record { name = named.0; rows = part_of fields key (scope_at names named.1) }) (zip own lists)
  parts_here i key there [] tables lists are = refl
  parts_here i key there (n ∷ ns) [] [] are = refl
  parts_here i key there (n ∷ ns) [] (l ∷ ls) are = absurd (cc)
  parts_here i key there (n ∷ ns) (t ∷ ts) [] are = absurd (cc)
  parts_here i key there (n ∷ ns) (t ∷ ts) (l ∷ ls) are =
      ap₂ (λ (rows : List Datum) (ps : List Dataset). record { name = n; rows = rows } ∷ ps)
      (part_here i key t l there
      (first_same (map data_of t) (parts_read names fields keys l) (map (map data_of) ts) (map (parts_read names fields keys) ls) are))
      (parts_here i key there ns ts ls
      (others_same (map data_of t) (parts_read names fields keys l) (map (map data_of) ts) (map (parts_read names fields keys) ls) are))

  found_there : (before : List (List Cell)) (key : List Cell) (rest : List (List Cell)) → slice_get (before ++ key ∷ rest) (length before) ≡ Some key
  found_there [] key rest = refl
  found_there (b ∷ bs) key rest = found_there bs key rest

  -- the copies by their places are the copies by their cells
  module _ (own lists : List (List ℕ)) (tables : List (List (List (Bor Keyed))))
      (are : map (map data_of) tables ≡ map (parts_read names fields keys) lists) where
    pub copies_from : (before rest : List (List Cell)) (i : ℕ) → keys ≡ before ++ rest → i ≡ length before
        → map (copy_at fields own tables) (enumerate_from i rest) ≡ map (copy_from names fields own lists) rest
    copies_from before [] i e at = refl
    copies_from before (key ∷ rest) i e at =
        let there : slice_get keys i ≡ Some key = ap₂ slice_get e at ∙ found_there before key rest in
        ap₂ (λ (parts : List Dataset) (cs : List Copy). record { cells = Some (zip fields key); parts = parts } ∷ cs)
        (parts_here i key there own tables lists are)
        (copies_from (before ++ key ∷ []) rest (i + 1) (e ∙ sym (append_assoc before (key ∷ []) rest))
        (omega (arith, at, length-append before (key ∷ []))))

-- the rows that a facet divides
pub rows_are : (names : NamesAt) (f : Facet) (shown rows : List (Bor Keyed)) (lists : List (List ℕ))
    → shown ≡ rows → data_of rows ≡ flat_map (scope_at names) lists → lists ≡ texts_in f.data_ → data_of shown ≡ rows_divided (scope_at names) f
rows_are names f shown rows lists are read listed = ap data_of are ∙ read ∙ ap (flat_map (scope_at names)) listed

-- the copies by a facet with some cells
pub copies_are : (names : NamesAt) (f : Facet) (keys : List (List Cell)) (fields own lists : List (List ℕ)) (tables : List (List (List (Bor Keyed))))
    → fields ≡ f.groupby → own ≡ texts_in f.name → lists ≡ texts_in f.data_
    → map (map data_of) tables ≡ map (parts_read names fields keys) lists
    → map (copy_at fields own tables) (enumerate_from 0 keys) ≡ map (copy_with (scope_at names) f) keys
copies_are names f keys fields own lists tables by_fields owned listed parted =
    copies_from names fields keys own lists tables parted [] keys 0 refl refl
    ∙ (λ i. map (copy_from names (by_fields i) (owned i) (listed i)) keys)

-- ---- what holds of copies

-- the keys of rows as they are read
keys_seen : (rows : List Keyed) → keys_read (map datum_of rows) ≡ keys_of rows
keys_seen [] = refl
keys_seen (row ∷ rows) = ap (λ (keys : List Key). row.key ∷ keys) (keys_seen rows)

-- the keys of a part are some of the keys of its list
fewer : (p : Datum → Bool) (rows : List Datum) → length (keys_read (filter p rows)) ≤ length (keys_read rows)
fewer p [] = omega arith
fewer p (row ∷ rows) =
    let rest = fewer p rows in
    cond_both (p row) (row ∷ filter p rows) (filter p rows)
    (λ l. length (keys_read l) ≤ suc (length (keys_read rows))) (λ _. omega (arith, rest)) (λ _. omega (arith, rest))

all_of_part : (P : Key → Type 0) (p : Datum → Bool) (rows : List Datum) → All P (keys_read rows) → All P (keys_read (filter p rows))
all_of_part P p [] h = h
all_of_part P p (row ∷ rows) h =
    let rest = all_of_part P p rows (All-tail P row.key (keys_read rows) h) in
    cond_both (p row) (row ∷ filter p rows) (filter p rows) (λ l. All P (keys_read l))
    (λ _. All-cons P row.key (keys_read (filter p rows)) (All-head P row.key (keys_read rows) h) rest) (λ _. rest)

part_fits : (n : ℕ) (p : Datum → Bool) (rows : List Datum) → KeysFit n (keys_read rows) → KeysFit n (keys_read (filter p rows))
part_fits n p rows fits = record {
  few = omega (arith, fits.few, fewer p rows);
  branches = all_of_part (λ (key : Key). key.branch < n) p rows fits.branches;
}

module _ (rows : RowsByName) (f : Facet) (key : List Cell) where
  -- a part of a list, by what it reads as
  one_part : (part : Named) (named : List ℕ × List ℕ) → dataset_of part ≡ part_named (scope_read rows) f key named
      → keys_of part.rows ≡ keys_read (part_of f.groupby key (map datum_of (rows named.1)))
  one_part part named e = sym (keys_seen part.rows) ∙ ap (λ (d : Dataset). keys_read d.rows) e

  part_is_rows : (part : Named) (named : List ℕ × List ℕ)
      → dataset_of part ≡ part_named (scope_read rows) f key named → AreRows (rows named.1) → AreRows part.rows
  part_is_rows part named e are =
      subst AreKeys (sym (one_part part named e))
      (parts_are_rows f.groupby key (map datum_of (rows named.1)) (subst AreKeys (sym (keys_seen (rows named.1))) are))

  part_keys_fit : (part : Named) (named : List ℕ × List ℕ) (n : ℕ)
      → dataset_of part ≡ part_named (scope_read rows) f key named → KeysFit n (keys_of (rows named.1))
      → KeysFit n (keys_of part.rows)
  part_keys_fit part named n e fits =
      subst (KeysFit n) (sym (one_part part named e))
      (part_fits n (λ row. is_key (key_of f.groupby row) key) (map datum_of (rows named.1)) (subst (KeysFit n) (sym (keys_seen (rows named.1))) fits))

  pub parts_sound : (parts : List Named) (named : List (List ℕ × List ℕ)) → map dataset_of parts ≡ map (part_named (scope_read rows) f key) named
      → AreAllRows rows → AreParts parts
  parts_sound [] named e are = λ k d lt. absurd (omega (arith, lt))
  parts_sound (p ∷ ps) [] e are = absurd (cc)
  parts_sound (p ∷ ps) (n ∷ ns) e are =
      All-cons (λ (part : Named). AreRows part.rows) p ps
      (part_is_rows p n (first_same (dataset_of p) (part_named (scope_read rows) f key n)
      (map dataset_of ps) (map (part_named (scope_read rows) f key) ns) e) (are n.1))
      (parts_sound ps ns
      (others_same (dataset_of p) (part_named (scope_read rows) f key n) (map dataset_of ps) (map (part_named (scope_read rows) f key) ns) e) are)

  -- the names and the products of parts stand side by side
  either_fits : (a b : Bool) (p q : ℕ) (own others : List Keyed) → a ≡ b → KeysFit p (keys_of own) → KeysFit q (keys_of others)
      → KeysFit (cond a p q) (keys_of (cond b own others))
  either_fits true true p q own others e x y = x
  either_fits false false p q own others e x y = y
  either_fits true false p q own others e x y = absurd (cc)
  either_fits false true p q own others e x y = absurd (cc)

  pub parts_fit : (products : Products) (parts : List Named) (named : List (List ℕ × List ℕ))
      → map dataset_of parts ≡ map (part_named (scope_read rows) f key) named
      → AllKeysFit products rows → AllKeysFit (with_part_products named products) (parts_over parts rows)
  parts_fit products [] [] e fits = fits
  parts_fit products [] (n ∷ ns) e fits = absurd (cc)
  parts_fit products (p ∷ ps) [] e fits = absurd (cc)
  parts_fit products (p ∷ ps) (n ∷ ns) e fits =
      let one : dataset_of p ≡ part_named (scope_read rows) f key n =
      first_same (dataset_of p) (part_named (scope_read rows) f key n) (map dataset_of ps) (map (part_named (scope_read rows) f key) ns) e in
      λ name. either_fits (bytes_eq n.0 name) (bytes_eq p.name name) (products n.1) (with_part_products ns products name) p.rows (parts_over ps rows name)
      (ap (λ (d : Dataset). bytes_eq d.name name) (sym one))
      (part_keys_fit p n (products n.1) one (fits n.1))
      (parts_fit products ps ns (others_same (dataset_of p) (part_named (scope_read rows) f key n)
      (map dataset_of ps) (map (part_named (scope_read rows) f key) ns) e) fits name)

module _ (names : NamesAt) (m : VgMark-F Group VgMark) (are : AreNames names) where
  -- what holds of a copy, by the facet
  Sound : Option Facet → CopyOf → Type 0
  Sound f copy =
      AreParts copy.parts × ((products : Products) → AllKeysFit products (rows_at names.sources.now names.levels.now)
      → AllKeysFit (products_in_copy f products) (parts_over copy.parts (rows_at names.sources.now names.levels.now)))

  with_facet : (f : Facet) (copy : CopyOf) (key : List Cell) → copy_seen copy ≡ copy_with (scope_at names) f key → Sound (Some f) copy
  unfolding Sound
  with_facet f copy key e =
      let parts : map dataset_of copy.parts ≡ map (part_named (scope_at names) f key) (zip (texts_in f.name) (texts_in f.data_)) =
      ap (λ (c : Copy). c.parts) e in (
        parts_sound (rows_at names.sources.now names.levels.now) f key copy.parts (zip (texts_in f.name) (texts_in f.data_)) parts are.rows,
        λ products fits. parts_fit (rows_at names.sources.now names.levels.now) f key products copy.parts (zip (texts_in f.name) (texts_in f.data_)) parts fits,
      )

  each_with_facet : (f : Facet) (copies : List CopyOf) (keys : List (List Cell))
      → map copy_seen copies ≡ map (copy_with (scope_at names) f) keys → All (Sound (Some f)) copies
  each_with_facet f [] keys e = λ k d lt. absurd (omega (arith, lt))
  each_with_facet f (c ∷ cs) [] e = absurd (cc)
  each_with_facet f (c ∷ cs) (k ∷ ks) e =
      All-cons (Sound (Some f)) c cs
      (with_facet f c k (first_same (copy_seen c) (copy_with (scope_at names) f k) (map copy_seen cs) (map (copy_with (scope_at names) f) ks) e))
      (each_with_facet f cs ks (others_same (copy_seen c) (copy_with (scope_at names) f k) (map copy_seen cs) (map (copy_with (scope_at names) f) ks) e))

  no_parts : (parts : List Named) → map dataset_of parts ≡ [] → parts ≡ []
  no_parts [] e = refl
  no_parts (p ∷ ps) e = absurd (cc)

  without_facet : (copy : CopyOf) → copy_seen copy ≡ only_copy → Sound None copy
  unfolding Sound
  without_facet copy e =
      let none : copy.parts ≡ [] = no_parts copy.parts (ap (λ (c : Copy). c.parts) e) in (
        subst AreParts (sym none) (λ k d lt. absurd (omega (arith, lt))),
        λ products fits. subst (λ parts. AllKeysFit products (parts_over parts (rows_at names.sources.now names.levels.now))) (sym none) fits,
      )

  each_without : (copies : List CopyOf) → map copy_seen copies ≡ only_copy ∷ [] → All (Sound None) copies
  each_without [] e = absurd (cc)
  each_without (c ∷ cs) e =
      All-cons (Sound None) c cs (without_facet c (first_same (copy_seen c) only_copy (map copy_seen cs) [] e))
      (subst (All (Sound None)) (sym (no_copies cs (others_same (copy_seen c) only_copy (map copy_seen cs) [] e))) (λ k d lt. absurd (omega (arith, lt))))
    where
      no_copies : (cs : List CopyOf) → map copy_seen cs ≡ [] → cs ≡ []
      no_copies [] e = refl
      no_copies (c ∷ cs) e = absurd (cc)

  by_facet : (keys : Facet → List (List Cell)) (f : Option Facet) (copies : List CopyOf)
      → map copy_seen copies ≡ option_map_or (λ f. map (copy_with (scope_at names) f) (keys f)) f (only_copy ∷ []) → All (Sound f) copies
  by_facet keys None copies e = each_without copies e
  by_facet keys (Some f) copies e = each_with_facet f copies (keys f) e

  sound_copies : (copies : List CopyOf) → All (Sound (facet_in m.from)) copies → All (IsCopy names m) copies
  unfolding Sound
  sound_copies copies sound k d lt =
      let here = sound k d lt in
      record { parts = here.0; folds = here.1 }

  -- what holds of each copy of a group
  pub copies_sound : (copies : List CopyOf) → map copy_seen copies ≡ copies_of (scope_at names) (group_object 0 m) → All (IsCopy names m) copies
  copies_sound copies e =
      sound_copies copies (by_facet (λ f. cells_of_copies (divided_by m.sort f) (rows_divided (scope_at names) f)) (facet_in m.from) copies e)

  -- and of each that has rows
  pub with_rows_sound : (copies : List CopyOf) → map copy_seen copies ≡ copies_with_rows (scope_at names) (group_object 0 m) → All (IsCopy names m) copies
  with_rows_sound copies e =
      sound_copies copies (by_facet (λ f. cells_with_rows (divided_by m.sort f) (rows_divided (scope_at names) f)) (facet_in m.from) copies e)
