-- The rows that marks draw, as they are listed copy after copy.
use Rattle.std.proofs.Common.{◌≡◌, ℕ, zero, suc, ◌+◌, ◌<◌, ◌^◌, ◌≤◌, Bool, true, false, cond, Option, Some, None, List, [], ◌∷◌, ◌++◌, map}
use Rattle.std.proofs.Common.{length, drop, get_or, Bor, refl, sym, ap, ◌∙◌, arith, subst, append-nil, append_assoc}
use Rattle.std.specs.Prelude.{◌==◌, ◌&&◌, flat_map, filter, find, unwrap_or, if◌then◌else◌, IsSome}
use Rattle.std.specs.Option.{option_map}
use Rattle.std.specs.List.{All, AllZip}
use Rattle.std.proofs.lemmas.List.{length-drop}
use Rattle.std.proofs.lemmas.List.Elements.{All-head, All-tail}
use Rattle.std.proofs.lemmas.Option.{same_Some}
use Rattle.cell_value.specs.declared.cell.Cell.{Cell}
use Rattle.cell_value.specs.declared.state.Key.{Key}
use Rattle.cell_value.specs.declared.state.Keyed.{Keyed}
use Rattle.cell_value.specs.declared.state.Named.{Named}
use Rattle.cell_value.specs.declared.state.StoreOf.{StoreOf}
use Rattle.cell_value.specs.Datum.{Datum, cell_at, datum_of}
use Rattle.cell_value.specs.State.{Dataset, dataset_of, greatest_id}
use Rattle.expr_eval.specs.Values.{Values}
use Rattle.fixed_num.specs.Ranges.{◌>>=◌, all_found}
use Rattle.mark_encode.specs.Orders.{data_of}
use Rattle.param_flow.specs.UnitRows.{has_key, cell_in_unit}
use Rattle.plain_rows.specs.Rows.{keys_of}
use Rattle.vega_lists.specs.Held.{scope_read}
use Rattle.vega_scales.specs.declared.scaled.Scaled.{Scaled}
use Rattle.vega_scales.specs.Scales.{domain_of}
use Rattle.vega_signals.specs.Settling.{Valued}
use Rattle.vega_spec.specs.declared.spec.Group.{out-Group}
use Rattle.vega_spec.specs.declared.spec.VgMark.{VgMark, out-VgMark}
use Rattle.vega_spec.specs.declared.spec.VgSpec.{VgSpec}
use Rattle.vega_copies.specs.declared.made.CopiesMade.{CopiesMade, out-CopiesMade}
use Rattle.vega_copies.specs.declared.made.CopyMade.{CopyMade, out-CopyMade}
use Rattle.vega_copies.specs.declared.names.Level.{Level}
use Rattle.vega_copies.specs.declared.names.NamesAt.{NamesAt}
use Rattle.vega_copies.specs.CopyNames.{names_in_copy}
use Rattle.vega_copies.specs.Facets.{Copy, copies_of, columns_across}
use Rattle.vega_copies.specs.Facts.{Facts, Found, FoundOf, NoCopies, CopyFound, copies_in, gathered, first_copies, behind_first, facts_here}
use Rattle.vega_copies.specs.Facts.{copy_found, found_in, facts_of}
use Rattle.vega_copies.specs.Outlines.{Object, Marks, NoMarks, AMark, AGroup, PlainMark, Opened, numbered, count_marks, count_groups, outline_of}
use Rattle.vega_copies.specs.Scopes.{Names, keeps_signals, names_at_top}
use Rattle.vega_copies.specs.inner.Kept.{KeepsAll}
use Rattle.vega_copies.specs.inner.Levels.{names_at, rows_at, rows_behind}
use Rattle.vega_copies.specs.inner.Made.{levels_behind, made_seen, names_under, rows_under, AreMade, HaveCopies, IsMade, OneMade}
use Rattle.vega_copies.specs.inner.Outlined.{is_group, marks_in, marks_of, plain_of}
use Rattle.vega_copies.specs.inner.Standing.{MayStand}
use Rattle.vega_copies.proofs.MadeLemmas.{all_made, at_place, names_are_under}
use Rattle.vega_copies.proofs.FactsLemmas.{found_numbered}
use Rattle.vega_copies.proofs.OutlineLemmas.{counted_first, group_first, plain_first}
use Rattle.vega_copies.proofs.StandLemmas.{stand_first, stand_rest}
use Rattle.vega_charts.specs.Items.{items_in_copy, rows_of_mark}
use Rattle.vega_charts.specs.inner.Topped.{top_of}
use Rattle.vega_charts.proofs.TopLemmas.{outline_is}
use Rattle.vega_drawing.specs.Drawings.{drawn_from_facts}
use Rattle.vega_meaning.specs.UnitRows.{has_keys, rows_of_unit, rows_inside, rows_found, unit_rows}
use Rattle.plain_engine.proofs.TopLemmas.{drawn_over}
use Rattle.plain_engine.specs.declared.drawn_row.DrawnRow.{DrawnRow}
use Rattle.plain_engine.specs.inner.Drawn.{IsDrawnOver}
use Rattle.plain_engine.specs.inner.Rows.{entries_of, entries_of_copies, entries_of_mark, entries_of_rows, has_unit_and_key, seen, told, told_of, TellsRows}

-- ---- rows that are added

-- the id of a row at a place
pub small_at : (rows : List (Bor Keyed)) (i : ℕ) (row : Bor Keyed) → All (λ (key : Key). key.id ≤ greatest_id) (keys_of (rows_behind rows)) → i < length rows
    → row ≡ get_or rows i row → row.now.key.id ≤ greatest_id
small_at [] i row small lt at = absurd (omega (arith, lt))
small_at (x ∷ xs) zero row small lt at =
    subst (λ (r : Bor Keyed). r.now.key.id ≤ greatest_id) (sym at) (All-head (λ (key : Key). key.id ≤ greatest_id) x.now.key (keys_of (rows_behind xs)) small)
small_at (x ∷ xs) (suc i) row small lt at =
    small_at xs i row (All-tail (λ (key : Key). key.id ≤ greatest_id) x.now.key (keys_of (rows_behind xs)) small) (omega (arith, lt)) at

-- one row more, and no row more
pub row_pushed : (unit : ℕ) (rows : List (Bor Keyed)) (i : ℕ) (row : Bor Keyed) (old new whole : List (ℕ × Datum)) → i < length rows → row ≡ get_or rows i row
    → old ++ entries_of_rows unit (data_of (drop i rows)) ≡ whole → new ≡ old ++ (unit, datum_of row.now) ∷ []
    → new ++ entries_of_rows unit (data_of (drop (i + 1) rows)) ≡ whole
row_pushed unit rows i row old new whole lt at h is =
    ap (λ front. front ++ entries_of_rows unit (data_of (drop (i + 1) rows))) is
    ∙ append_assoc old ((unit, datum_of row.now) ∷ []) (entries_of_rows unit (data_of (drop (i + 1) rows)))
    ∙ ap (λ rest. old ++ entries_of_rows unit (data_of rest)) (sym (at_place rows i row lt at))
    ∙ h

pub rows_ended : (unit : ℕ) (rows : List (Bor Keyed)) (old whole : List (ℕ × Datum))
    → rows ≡ [] → old ++ entries_of_rows unit (data_of rows) ≡ whole → old ≡ whole
rows_ended unit rows old whole none h = sym (append-nil old) ∙ ap (λ rest. old ++ entries_of_rows unit (data_of rest)) (sym none) ∙ h

-- the same of what comes of each of some elements
pub part_pushed : {X A : Type 0} (f : X → List A) (xs : List X) (i : ℕ) (x : X) (old new whole : List A) → i < length xs → x ≡ get_or xs i x
    → old ++ flat_map f (drop i xs) ≡ whole → new ≡ old ++ f x → new ++ flat_map f (drop (i + 1) xs) ≡ whole
part_pushed f xs i x old new whole lt at h is =
    ap (λ front. front ++ flat_map f (drop (i + 1) xs)) is
    ∙ append_assoc old (f x) (flat_map f (drop (i + 1) xs))
    ∙ ap (λ rest. old ++ flat_map f rest) (sym (at_place xs i x lt at))
    ∙ h

pub parts_ended : {X A : Type 0} (f : X → List A) (xs : List X) (old whole : List A) → xs ≡ [] → old ++ flat_map f xs ≡ whole → old ≡ whole
parts_ended f xs old whole none h = sym (append-nil old) ∙ ap (λ rest. old ++ flat_map f rest) (sym none) ∙ h

-- ---- the rows of marks, one after the other

same_number : (unit inside : ℕ) → unit + (inside + 0) ≡ unit + inside
same_number unit inside = omega arith

next_number : (unit : ℕ) → unit + suc 0 ≡ suc unit
next_number unit = omega arith

module _ (sources : List Named) (levels : List Level) (m : VgMark) where
  abbrev marks_inside : Marks
  marks_inside = marks_of (marks_in (out-Group (out-VgMark m).group))

  -- a group alone, and another mark
  pub group_entries : (unit : ℕ) (found : CopiesMade) → is_group (out-VgMark m) ≡ true
      → entries_of sources unit (marks_of (m ∷ [])) levels (found ∷ []) ≡ entries_of_copies sources unit (out-VgMark m) levels (out-CopiesMade found).copies
  group_entries unit found e =
      ap (λ row. entries_of sources unit row levels (found ∷ [])) (group_first m NoMarks e)
      ∙ append-nil (entries_of_copies sources unit (out-VgMark m) levels (out-CopiesMade found).copies)

  pub plain_entries : (unit : ℕ) (found : CopiesMade) → is_group (out-VgMark m) ≡ false
      → entries_of sources unit (marks_of (m ∷ [])) levels (found ∷ [])
      ≡ entries_of_mark unit (plain_of (out-VgMark m)) (scope_read (rows_under sources levels))
  plain_entries unit found e =
      ap (λ row. entries_of sources unit row levels (found ∷ [])) (plain_first m NoMarks e)
      ∙ append-nil (entries_of_mark unit (plain_of (out-VgMark m)) (scope_read (rows_under sources levels)))

  -- the first mark, and those behind it
  pub first_entries : (unit : ℕ) (ms : List VgMark) (found : CopiesMade) (more : List CopiesMade)
      → entries_of sources unit (marks_of (m ∷ ms)) levels (found ∷ more)
      ≡ entries_of sources unit (marks_of (m ∷ [])) levels (found ∷ []) ++ entries_of sources (unit + count_marks (marks_of (m ∷ []))) (marks_of ms) levels more
  first_entries unit ms found more = by_type (is_group (out-VgMark m)) refl
    where
      by_type : (b : Bool) → is_group (out-VgMark m) ≡ b → entries_of sources unit (marks_of (m ∷ ms)) levels (found ∷ more)
          ≡ entries_of sources unit (marks_of (m ∷ [])) levels (found ∷ [])
          ++ entries_of sources (unit + count_marks (marks_of (m ∷ []))) (marks_of ms) levels more
      by_type true e =
          let counted : unit + count_marks (marks_of (m ∷ [])) ≡ unit + count_marks marks_inside =
          ap (λ row. unit + count_marks row) (group_first m NoMarks e) ∙ same_number unit (count_marks marks_inside) in
          ap (λ row. entries_of sources unit row levels (found ∷ more)) (group_first m (marks_of ms) e)
          ∙ (λ i. sym (group_entries unit found e) i ++ entries_of sources (sym counted i) (marks_of ms) levels more)
      by_type false e =
          let counted : unit + count_marks (marks_of (m ∷ [])) ≡ suc unit =
          ap (λ row. unit + count_marks row) (plain_first m NoMarks e) ∙ next_number unit in
          ap (λ row. entries_of sources unit row levels (found ∷ more)) (plain_first m (marks_of ms) e)
          ∙ (λ i. sym (plain_entries unit found e) i ++ entries_of sources (sym counted i) (marks_of ms) levels more)

-- What is left of marks while their rows are added, where so many were numbered and these rows added.
pub record EntriesLeft (names : NamesAt) (whole : List (ℕ × Datum)) (marks : List VgMark)
    (made : List CopiesMade) (unit : ℕ) (out : List (ℕ × Datum)) : Type 0 where
  pub stand : HaveCopies names.stores.now names.sources.now names.levels.now marks made
  pub few : unit + count_marks (marks_of marks) < 2 ^ 32
  pub entries : out ++ entries_of names.sources.now unit (marks_of marks) (levels_behind names.levels.now) made ≡ whole

some_here : {X Y : Type 0} (R : X → Y → Type 0) (x : X) (xs : List X) (ys : List Y) → AllZip R (x ∷ xs) ys → 0 < length ys
some_here R x xs [] each = absurd each
some_here R x xs (y ∷ ys) each = omega arith

module _ (names : NamesAt) (whole : List (ℕ × Datum)) (all : List VgMark) (every : List CopiesMade) where
  abbrev one_made : VgMark → CopiesMade → Type 0
  one_made = OneMade names.stores.now names.sources.now (levels_behind names.levels.now)

  -- none are left
  pub entries_ended : (marks : List VgMark) (made : List CopiesMade) (unit : ℕ) (out : List (ℕ × Datum))
      → marks ≡ [] → EntriesLeft names whole marks made unit out
      → out ≡ whole
  entries_ended marks made unit out none left =
      sym (append-nil out)
      ∙ ap (λ ms. out ++ entries_of names.sources.now unit (marks_of ms) (levels_behind names.levels.now) made) (sym none)
      ∙ left.entries

  -- one is left at least
  module _ (index : ℕ) (m : VgMark) (at unit : ℕ) (out : List (ℕ × Datum)) (within : index < length all) (is : m ≡ get_or all index m)
      (left : EntriesLeft names whole (drop index all) (drop at every) unit out) where
    here_first : EntriesLeft names whole (m ∷ drop (index + 1) all) (drop at every) unit out
    here_first = subst (λ marks. EntriesLeft names whole marks (drop at every) unit out) (at_place all index m within is) left

    pub one_within : at < length every
    one_within =
        let some = some_here one_made m (drop (index + 1) all) (drop at every) here_first.stand.made in
        let size = length-drop at every in
        omega (arith, some, size)

    counted : count_marks (marks_of (m ∷ drop (index + 1) all)) ≡ count_marks (marks_of (m ∷ [])) + count_marks (marks_of (drop (index + 1) all))
    counted = counted_first m (drop (index + 1) all)

    pub one_is_few : unit + count_marks (marks_of (m ∷ [])) < 2 ^ 32
    one_is_few =
        let few = here_first.few in
        let parts = counted in
        omega (arith, few, parts)

    module _ (one : CopiesMade) (one_is : one ≡ get_or every at one) where
      both_here : EntriesLeft names whole (m ∷ drop (index + 1) all) (one ∷ drop (at + 1) every) unit out
      both_here = subst (λ made. EntriesLeft names whole (m ∷ drop (index + 1) all) made unit out) (at_place every at one one_within one_is) here_first

      pub one_stands : MayStand (rows_at names.sources.now names.levels.now) (m ∷ [])
      one_stands = stand_first (rows_at names.sources.now names.levels.now) m (drop (index + 1) all) both_here.stand.stand

      pub one_is_made : one_made m one
      one_is_made = both_here.stand.made.0

      pub one_more : (next : ℕ) (new : List (ℕ × Datum)) → next ≡ unit + count_marks (marks_of (m ∷ []))
          → new ≡ out ++ entries_of names.sources.now unit (marks_of (m ∷ [])) (levels_behind names.levels.now) (one ∷ [])
          → EntriesLeft names whole (drop (index + 1) all) (drop (at + 1) every) next new
      one_more next new counts grown = record {
        stand = record {
          stand = stand_rest (rows_at names.sources.now names.levels.now) m (drop (index + 1) all) both_here.stand.stand;
          made = both_here.stand.made.1;
        };
        few =
            let few = here_first.few in
            let parts = counted in
            omega (arith, few, parts, counts);
        entries =
            (λ i. grown i ++ entries_of names.sources.now (counts i) (marks_of (drop (index + 1) all)) (levels_behind names.levels.now) (drop (at + 1) every))
            ∙ append_assoc out (entries_of names.sources.now unit (marks_of (m ∷ [])) (levels_behind names.levels.now) (one ∷ []))
            (entries_of names.sources.now (unit + count_marks (marks_of (m ∷ []))) (marks_of (drop (index + 1) all)) (levels_behind names.levels.now)
            (drop (at + 1) every))
            ∙ ap (λ entries. out ++ entries)
            (sym (first_entries names.sources.now (levels_behind names.levels.now) m unit (drop (index + 1) all) one (drop (at + 1) every)))
            ∙ both_here.entries;
      }

-- the marks in a group are as few as it is
pub inside_few : (m : VgMark) (inside : List VgMark) (unit : ℕ) → is_group (out-VgMark m) ≡ true → inside ≡ marks_in (out-Group (out-VgMark m).group)
    → unit + count_marks (marks_of (m ∷ [])) < 2 ^ 32 → unit + count_marks (marks_of inside) < 2 ^ 32
inside_few m inside unit e is few =
    let whole : count_marks (marks_of (m ∷ [])) ≡ count_marks (marks_of (marks_in (out-Group (out-VgMark m).group))) + 0 =
    ap count_marks (group_first m NoMarks e) in
    let part : count_marks (marks_of inside) ≡ count_marks (marks_of (marks_in (out-Group (out-VgMark m).group))) = ap (λ ms. count_marks (marks_of ms)) is in
    omega (arith, few, whole, part)

-- ---- the rows of a unit among them

pub told_append : (a b : List (ℕ × Datum)) (unit : ℕ) → told_of (a ++ b) unit ≡ told_of a unit ++ told_of b unit
told_append [] b unit = refl
told_append (entry ∷ a) b unit = by_unit (entry.0 == unit) (told_append a b unit)
  where
    by_unit : (is : Bool) → told_of (a ++ b) unit ≡ told_of a unit ++ told_of b unit
        → map (λ (e : ℕ × Datum). e.1) (cond is (entry ∷ filter (λ (e : ℕ × Datum). e.0 == unit) (a ++ b)) (filter (λ (e : ℕ × Datum). e.0 == unit) (a ++ b)))
        ≡ map (λ (e : ℕ × Datum). e.1)
        (cond is (entry ∷ filter (λ (e : ℕ × Datum). e.0 == unit) a) (filter (λ (e : ℕ × Datum). e.0 == unit) a)) ++ told_of b unit
    by_unit true same = ap (λ rest. entry.1 ∷ rest) same
    by_unit false same = same

either_way : (is : Bool) (rows : List Datum) → rows ≡ cond is rows rows
either_way true rows = refl
either_way false rows = refl

told_rows : (n unit : ℕ) (rows : List Datum) → told_of (entries_of_rows n rows) unit ≡ cond (n == unit) rows []
told_rows n unit [] = either_way (n == unit) []
told_rows n unit (row ∷ rows) = by_unit (n == unit) (told_rows n unit rows)
  where
    by_unit : (is : Bool) → map (λ (e : ℕ × Datum). e.1) (filter (λ (e : ℕ × Datum). e.0 == unit) (entries_of_rows n rows)) ≡ cond is rows []
        → map (λ (e : ℕ × Datum). e.1) (cond is ((n, row) ∷ filter (λ (e : ℕ × Datum). e.0 == unit) (entries_of_rows n rows))
        (filter (λ (e : ℕ × Datum). e.0 == unit) (entries_of_rows n rows))) ≡ cond is (row ∷ rows) []
    by_unit true same = ap (λ rest. row ∷ rest) same
    by_unit false same = same

-- a list that is kept on two tests
both_kept : {A : Type 0} (is has : Bool) (xs : List A) → cond has (cond is xs []) [] ≡ (if is && has then xs else [])
both_kept true true xs = refl
both_kept true false xs = refl
both_kept false true xs = refl
both_kept false false xs = refl

told_if : (b : Bool) (entries : List (ℕ × Datum)) (unit : ℕ) → told_of (if b then entries else []) unit ≡ cond b (told_of entries unit) []
told_if true entries unit = refl
told_if false entries unit = refl

told_mark : (n unit : ℕ) (m : PlainMark) (names : Names) → told_of (entries_of_mark n m names.lists) unit ≡ rows_of_unit unit n m names
told_mark n unit m names =
    told_if (has_keys m.type) (entries_of_rows n (rows_of_mark names.lists m.from)) unit
    ∙ ap (λ rows. cond (has_keys m.type) rows []) (told_rows n unit (rows_of_mark names.lists m.from))
    ∙ both_kept (n == unit) (has_keys m.type) (rows_of_mark names.lists m.from)

-- ---- steps that found something

bind_some : {A B : Type 0} (o : Option A) (f : A → Option B) (b : B) → (o >>= f) ≡ Some b → (a : A) × (o ≡ Some a) × (f a ≡ Some b)
bind_some None f b e = absurd (cc e)
bind_some (Some a) f b e = (a, refl, e)

map_some : {A B : Type 0} (o : Option A) (f : A → B) (b : B) → option_map f o ≡ Some b → (a : A) × (o ≡ Some a) × (f a ≡ b)
map_some None f b e = absurd (cc e)
map_some (Some a) f b e = (a, refl, same_Some (f a) b e)

-- a copy of which this was found
abbrev copy_with : Facts → Found → CopyFound
copy_with facts inside = record { facts = facts; inside = inside }

copies_back : (found : List CopyFound) → copies_in (gathered found) ≡ found
copies_back [] = refl
copies_back (c ∷ cs) = ap (λ rest. c ∷ rest) (copies_back cs)

-- the facts of a copy have the names that stand in it
abbrev facts_with : Option (List (List ℕ × Cell)) → Names → List Scaled → Facts
facts_with cells names domains = record { cells = cells; names = names; domains = domains }

facts_named : (cells : Option (List (List ℕ × Cell))) (o : Object) (names : Names) (facts : Facts) → facts_here cells o names ≡ Some facts → facts.names ≡ names
facts_named cells o names facts e = by_kept (keeps_signals names o) (all_found (map (domain_of names.values names.lists) o.scales)) e
  where
    by_kept : (b : Bool) (domains : Option (List Scaled)) → (if b then option_map (facts_with cells names) domains else None) ≡ Some facts → facts.names ≡ names
    by_kept true (Some domains) e = ap (λ (f : Facts). f.names) (sym (same_Some (facts_with cells names domains) facts e))
    by_kept true None e = absurd (cc e)
    by_kept false domains e = absurd (cc e)

-- ---- the rows of a unit in the copies that were made

module _ (stores : List StoreOf) (sources : List Named) (unit : ℕ) where
  abbrev read : List Dataset
  read = map dataset_of sources

  -- a step of a group
  abbrev copy_here : Object → Marks → Names → Copy → Option CopyFound
  copy_here o inside names copy =
      names_in_copy read names o copy >>= λ here. copy_found copy.cells o here (found_in read inside here)

  abbrev entries_within : Marks → ℕ → List Level → CopyMade → List (ℕ × Datum)
  entries_within inside n levels copy = entries_of sources n inside ((out-CopyMade copy).level ∷ levels) (out-CopyMade copy).inside

  abbrev rows_within : Marks → CopyFound → List Datum
  rows_within inside copy = rows_inside unit inside copy.inside copy.facts.names

  abbrev Tells : Marks → ℕ → ℕ → Type 0
  Tells marks n number =
      (levels : List Level) (made : List CopiesMade) (found : Found) → AreMade stores sources marks levels made
      → found_in read marks (names_under stores sources levels) ≡ Some found
      → told_of (entries_of sources n marks levels made) unit ≡ rows_inside unit (numbered n number marks) found (names_under stores sources levels)

  one_told : (o : Object) (inside : Marks) (n number : ℕ) (levels : List Level) → Tells inside n number → (copy : CopyMade) (found : CopyFound)
      → IsMade stores sources o inside (AreMade stores sources inside) levels copy
      → copy_here o inside (names_under stores sources levels) (made_seen copy) ≡ Some found
      → told_of (entries_within inside n levels copy) unit ≡ rows_within (numbered n number inside) found
  one_told o inside n number levels tells copy found is e =
      let inner : Names = names_under stores sources ((out-CopyMade copy).level ∷ levels) in
      let named = ap (λ (here : Option Names). here >>= λ here. copy_found (made_seen copy).cells o here (found_in read inside here)) (sym is.names) ∙ e in
      let facts = bind_some (facts_here (made_seen copy).cells o inner)
      (λ facts. found_in read inside inner >>= λ inside. Some (copy_with facts inside)) found named in
      let within = bind_some (found_in read inside inner) (λ inside. Some (copy_with facts.0 inside)) found facts.2 in
      let names : facts.0.names ≡ inner = facts_named (made_seen copy).cells o inner facts.0 facts.1 in
      tells ((out-CopyMade copy).level ∷ levels) (out-CopyMade copy).inside within.0 is.within within.1
      ∙ (λ i. rows_inside unit (numbered n number inside) within.0 (sym names i))
      ∙ ap (rows_within (numbered n number inside)) (same_Some (copy_with facts.0 within.0) found within.2)

  copies_told : (o : Object) (inside : Marks) (n number : ℕ) (levels : List Level) → Tells inside n number → (copies : List CopyMade) (found : List CopyFound)
      → All (IsMade stores sources o inside (AreMade stores sources inside) levels) copies
      → all_found (map (copy_here o inside (names_under stores sources levels)) (map made_seen copies)) ≡ Some found
      → told_of (flat_map (entries_within inside n levels) copies) unit ≡ flat_map (rows_within (numbered n number inside)) found
  copies_told o inside n number levels tells [] found all e = ap (flat_map (rows_within (numbered n number inside))) (same_Some [] found e)
  copies_told o inside n number levels tells (c ∷ cs) found all e =
      let first = bind_some (copy_here o inside (names_under stores sources levels) (made_seen c))
      (λ x. all_found (map (copy_here o inside (names_under stores sources levels)) (map made_seen cs)) >>= λ xs. Some (x ∷ xs)) found e in
      let rest = bind_some (all_found (map (copy_here o inside (names_under stores sources levels)) (map made_seen cs)))
      (λ xs. Some (first.0 ∷ xs)) found first.2 in
      let one = All-head (IsMade stores sources o inside (AreMade stores sources inside) levels) c cs all in
      let others = All-tail (IsMade stores sources o inside (AreMade stores sources inside) levels) c cs all in
      told_append (entries_within inside n levels c) (flat_map (entries_within inside n levels) cs) unit
      ∙ (λ i. one_told o inside n number levels tells c first.0 one first.1 i ++ copies_told o inside n number levels tells cs rest.0 others rest.1 i)
      ∙ ap (flat_map (rows_within (numbered n number inside))) (same_Some (first.0 ∷ rest.0) found rest.2)

  pub rows_told : (marks : Marks) (n number : ℕ) → Tells marks n number
  rows_told NoMarks n number levels [] found made e = refl
  rows_told NoMarks n number levels (f ∷ fs) found made e = absurd made
  rows_told (AMark old m others) n number levels [] found made e = absurd made
  rows_told (AMark old m others) n number levels (f ∷ fs) found made e =
      let names = names_under stores sources levels in
      let rest = map_some (found_in read others names) (FoundOf NoCopies None) found e in
      told_append (entries_of_mark n m names.lists) (entries_of sources (suc n) others levels fs) unit
      ∙ (λ i. told_mark n unit m names i ++ rows_told others (suc n) number levels fs rest.0 made.1 rest.1 i)
      ∙ ap (λ (found : Found). rows_of_unit unit n m names ++ rows_inside unit (numbered (suc n) number others) (behind_first found) names) rest.2
  rows_told (AGroup o inside others) n number levels [] found made e = absurd made
  rows_told (AGroup o inside others) n number levels (f ∷ fs) found made e =
      let names = names_under stores sources levels in
      let copies = bind_some (all_found (map (copy_here o inside names) (copies_of names.lists o)))
      (λ copies. found_in read others names >>= λ rest. Some (FoundOf (gathered copies) (columns_across names.lists o) rest)) found e in
      let rest = bind_some (found_in read others names) (λ rest. Some (FoundOf (gathered copies.0) (columns_across names.lists o) rest)) found copies.2 in
      let there = ap (λ copies. all_found (map (copy_here o inside names) copies)) made.0.copies ∙ copies.1 in
      told_append (flat_map (entries_within inside n levels) (out-CopiesMade f).copies) (entries_of sources (n + count_marks inside) others levels fs) unit
      ∙ (λ i. copies_told o inside n (suc number) levels (rows_told inside n (suc number)) (out-CopiesMade f).copies copies.0 made.0.sound there i
      ++ rows_told others (n + count_marks inside) (suc number + count_groups inside) levels fs rest.0 made.1 rest.1 i)
      ∙ (λ i. flat_map (rows_within (numbered n (suc number) inside)) (sym (copies_back copies.0) i)
      ++ rows_inside unit (numbered (n + count_marks inside) (suc number + count_groups inside) others) rest.0 names)
      ∙ ap (λ (found : Found). flat_map (rows_within (numbered n (suc number) inside)) (first_copies found)
      ++ rows_inside unit (numbered (n + count_marks inside) (suc number + count_groups inside) others) (behind_first found) names)
      (same_Some (FoundOf (gathered copies.0) (columns_across names.lists o) rest.0) found rest.2)

-- ---- the cell of a row

-- what is read of a unit is the cell of the first row of it with the key
pub cell_found : (unit : ℕ) (key : Key) (name : List ℕ) (rows : List DrawnRow)
    → cell_in_unit (Some (told rows unit)) key name ≡ option_map (λ (row : DrawnRow). cell_at row.keyed name) (find (has_unit_and_key unit key) rows)
cell_found unit key name [] = refl
cell_found unit key name (row ∷ rows) = by_unit (row.unit == unit) (has_key key (datum_of row.keyed)) refl (cell_found unit key name rows)
  where
    by_unit : (is has : Bool) → has_key key (datum_of row.keyed) ≡ has
        → cell_in_unit (Some (told rows unit)) key name ≡ option_map (λ (row : DrawnRow). cell_at row.keyed name) (find (has_unit_and_key unit key) rows)
        → option_map (λ (d : Datum). d.cell name) (find (has_key key) (map (λ (e : ℕ × Datum). e.1)
        (cond is (seen row ∷ filter (λ (e : ℕ × Datum). e.0 == unit) (map seen rows)) (filter (λ (e : ℕ × Datum). e.0 == unit) (map seen rows)))))
        ≡ option_map (λ (row : DrawnRow). cell_at row.keyed name) (cond (is && has) (Some row) (find (has_unit_and_key unit key) rows))
    by_unit false has e same = same
    by_unit true true e same =
        ap (λ b. option_map (λ (d : Datum). d.cell name) (cond b (Some (datum_of row.keyed)) (find (has_key key) (told rows unit)))) e
    by_unit true false e same =
        ap (λ b. option_map (λ (d : Datum). d.cell name) (cond b (Some (datum_of row.keyed)) (find (has_key key) (told rows unit)))) e
        ∙ same

pub cell_of_found : (unit : ℕ) (key : Key) (name : List ℕ) (rows : List DrawnRow) (row : DrawnRow) (cell : Cell)
    → Some row ≡ find (has_unit_and_key unit key) rows
    → cell ≡ cell_at row.keyed name → cell_in_unit (Some (told rows unit)) key name ≡ Some cell
cell_of_found unit key name rows row cell found is =
    cell_found unit key name rows ∙ ap (option_map (λ (row : DrawnRow). cell_at row.keyed name)) (sym found) ∙ ap Some (sym is)

pub none_found : (unit : ℕ) (key : Key) (name : List ℕ) (rows : List DrawnRow) → None ≡ find (has_unit_and_key unit key) rows
    → IsSome (cell_in_unit (Some (told rows unit)) key name) → ⊥
none_found unit key name rows none there =
    let here : false ≡ true =
    subst IsSome (cell_found unit key name rows ∙ ap (option_map (λ (row : DrawnRow). cell_at row.keyed name)) (sym none)) there in
    cc here

-- ---- what is drawn has names, and copies that were found

-- what is found of the top of a specification, of which something is drawn
pub record IsFoundOnTop (g : VgSpec) (stores : Values) (params : Valued) (sources : List Dataset) : Type 0 where
  pub names : Names
  pub named : names_at_top stores params sources (top_of g).object ≡ Some names
  pub facts : CopyFound
  pub is : facts_of sources (top_of g).object (top_of g).marks names ≡ Some facts

pub found_on_top : (g : VgSpec) (stores : Values) (params : Valued) (sources : List Dataset) → IsDrawnOver g stores params sources
    → IsFoundOnTop g stores params sources
found_on_top g stores params sources (drawing, e) =
    let over = drawn_over g stores params sources drawing e in
    let found = bind_some (facts_of sources (top_of g).object (top_of g).marks over.0) (drawn_from_facts items_in_copy g (top_of g)) drawing over.2 in
    record { names = over.0; named = over.1; facts = found.0; is = found.1 }

module _ (g : VgSpec) (stores : Values) (params : Valued) (sources : List Dataset) where
  abbrev rows_of_top : ℕ → Opened → List Datum
  rows_of_top unit top = unwrap_or (names_at_top stores params sources top.object >>= λ names.
      facts_of sources top.object top.marks names >>= λ found. Some (rows_found unit top found)) []

  -- the rows of a unit, where these are the names of the top, and this was found in it
  unit_rows_are : (unit : ℕ) (names : Names) (facts : CopyFound) → names_at_top stores params sources (top_of g).object ≡ Some names
      → facts_of sources (top_of g).object (top_of g).marks names ≡ Some facts → unit_rows g stores params sources unit ≡ rows_found unit (top_of g) facts
  unit_rows_are unit names facts named found =
      ap (rows_of_top unit) (outline_is g)
      ∙ ap (λ (o : Option Names). unwrap_or (o >>= λ names.
      facts_of sources (top_of g).object (top_of g).marks names >>= λ found. Some (rows_found unit (top_of g) found)) []) named
      ∙ ap (λ (o : Option CopyFound). unwrap_or (o >>= λ found. Some (rows_found unit (top_of g) found)) []) found

  -- what tells the rows of the marks of the top tells those of each unit
  pub told_on_top : (rows : List DrawnRow) (names : Names) → names_at_top stores params sources (top_of g).object ≡ Some names → TellsRows sources g names rows
      → IsDrawnOver g stores params sources → (unit : ℕ) → told rows unit ≡ unit_rows g stores params sources unit
  told_on_top rows names named tells drawn unit =
      let top = found_on_top g stores params sources drawn in
      let same : top.names ≡ names = same_Some top.names names (sym top.named ∙ named) in
      let is = ap (λ names. facts_of sources (top_of g).object (top_of g).marks names) (sym same) ∙ top.is in
      let facts = bind_some (facts_here None (top_of g).object names)
      (λ facts. found_in sources (top_of g).marks names >>= λ inside. Some (copy_with facts inside)) top.facts is in
      let within = bind_some (found_in sources (top_of g).marks names) (λ inside. Some (copy_with facts.0 inside)) top.facts facts.2 in
      let here : facts.0.names ≡ names = facts_named None (top_of g).object names facts.0 facts.1 in
      let whole = same_Some (copy_with facts.0 within.0) top.facts within.2 in
      tells within.0 (sym (found_numbered sources (marks_of (marks_in (out-Group g.group))) 0 1 names) ∙ within.1) unit
      ∙ (λ i. rows_inside unit (top_of g).marks within.0 (sym here i))
      ∙ ap (rows_found unit (top_of g)) whole
      ∙ sym (unit_rows_are unit names top.facts named is)

-- ---- the rows of all marks of the top

counts_numbered : (unit number : ℕ) (marks : Marks) → count_marks (numbered unit number marks) ≡ count_marks marks
counts_numbered unit number NoMarks = refl
counts_numbered unit number (AMark old m others) = ap suc (counts_numbered (suc unit) number others)
counts_numbered unit number (AGroup o inside others) = λ i.
    counts_numbered unit (suc number) inside i + counts_numbered (unit + count_marks inside) (suc number + count_groups inside) others i

pub few_on_top : (g : VgSpec) (marks : List VgMark) → KeepsAll g → marks ≡ marks_in (out-Group g.group) → 0 + count_marks (marks_of marks) < 2 ^ 32
few_on_top g marks kept is =
    let here : count_marks (outline_of g).marks ≡ count_marks (marks_of (marks_in (out-Group g.group))) =
    ap (λ (top : Opened). count_marks top.marks) (outline_is g) ∙ counts_numbered 0 1 (marks_of (marks_in (out-Group g.group))) in
    let there : count_marks (marks_of marks) ≡ count_marks (marks_of (marks_in (out-Group g.group))) = ap (λ ms. count_marks (marks_of ms)) is in
    let few = kept.few_marks in
    omega (arith, here, there, few)

pub tells_rows : (names : NamesAt) (g : VgSpec) (made : List CopiesMade) (rows : List DrawnRow)
    → HaveCopies names.stores.now names.sources.now names.levels.now (marks_in (out-Group g.group)) made
    → map seen rows ≡ entries_of names.sources.now 0 (marks_of (marks_in (out-Group g.group))) (levels_behind names.levels.now) made
    → TellsRows (map dataset_of names.sources.now) g (names_at names.stores.now names.sources.now names.levels.now) rows
tells_rows names g made rows have is found e unit =
    let marks = marks_in (out-Group g.group) in
    let levels = levels_behind names.levels.now in
    let same = names_are_under names.stores.now names.sources.now names.levels.now in
    ap (λ entries. told_of entries unit) is
    ∙ rows_told names.stores.now names.sources.now unit (marks_of marks) 0 1 levels made found
    (all_made names.stores.now names.sources.now levels marks made have.made)
    (ap (found_in (map dataset_of names.sources.now) (marks_of marks)) (sym same) ∙ e)
    ∙ ap (rows_inside unit (numbered 0 1 (marks_of marks)) found) (sym same)
