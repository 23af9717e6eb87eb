-- Groups of which each copy holds as many plots as any other.
use Rattle.std.proofs.Common.{◌≡◌, ℕ, ◌+◌, ◌<◌, ◌&&◌, ◌||◌, ◌==◌, not, Bool, true, false, cond, Option, Some, None, List, [], ◌∷◌, ◌++◌}
use Rattle.std.proofs.Common.{map, flat_map, zip, drop, get_or, length, replicate, is_some, refl, sym, ap, ap₂, ◌∙◌, subst}
use Rattle.std.specs.List.{list_any, sum}
use Rattle.std.specs.Option.{option_map, option_map_or}
use Rattle.std.specs.Str.{bytes_eq}
use Rattle.std.proofs.lemmas.Bool.{eqb-true}
use Rattle.std.proofs.lemmas.List.{drop_more, nil_from_length}
use Rattle.fixed_num.specs.Ranges.{◌>>=◌, all_found}
use Rattle.cell_value.specs.declared.cell.Cell.{Cell}
use Rattle.cell_value.specs.Datum.{Datum}
use Rattle.cell_value.specs.State.{Dataset}
use Rattle.plain_facets.specs.Facets.{part_of, cells_of_copies}
use Rattle.vega_spec.specs.declared.data.DataSet.{DataSet}
use Rattle.vega_spec.specs.declared.marks.Facet.{Facet}
use Rattle.vega_spec.specs.declared.orders.Sort.{Sort}
use Rattle.vega_spec.specs.declared.spec.Group.{out-Group}
use Rattle.vega_spec.specs.declared.spec.VgMark.{VgMark, out-VgMark}
use Rattle.vega_lists.specs.Orders.{texts_in}
use Rattle.vega_lists.specs.Scopes.{Scope}
use Rattle.vega_copies.specs.Outlines.{Object, Marks, NoMarks, AMark, AGroup, facet_in}
use Rattle.vega_copies.specs.Scopes.{Names, names_in_object}
use Rattle.vega_copies.specs.Facets.{Copy, only_copy, copy_with, part_named, copies_by, copies_of, divided_by, rows_divided, with_parts}
use Rattle.vega_copies.specs.CopyNames.{names_in_copy}
use Rattle.vega_copies.specs.Panels.{plots_in_facets, plots_among}
use Rattle.vega_copies.specs.inner.Alike.{is_one_of, divides_none, reads_none, all_read_none, names_of_parts, are_alike, group_reads_none}
use Rattle.vega_copies.specs.inner.Counted.{is_panel, plots_inside, plots_of_copy, bare_part, bare_by, bare_copy}
use Rattle.vega_copies.specs.inner.Outlined.{marks_in, marks_of, is_group, group_object}
use Rattle.vega_copies.proofs.OutlineLemmas.{plain_first, group_first}

-- ---- the test, mark by mark

and_true : (a : Bool) → (a && true) ≡ a
and_true true = refl
and_true false = refl

and_assoc : (a b c : Bool) → (a && (b && c)) ≡ ((a && (b && true)) && c)
and_assoc true true c = refl
and_assoc true false c = refl
and_assoc false b c = refl

module _ (names : List (List ℕ)) where
  -- the first mark, and the others
  pub read_first : (m : VgMark) (ms : List VgMark)
      → all_read_none names (marks_of (m ∷ ms)) ≡ (all_read_none names (marks_of (m ∷ [])) && all_read_none names (marks_of ms))
  read_first m ms = by_type (is_group (out-VgMark m)) refl
    where
      by_type : (b : Bool) → is_group (out-VgMark m) ≡ b
          → all_read_none names (marks_of (m ∷ ms)) ≡ (all_read_none names (marks_of (m ∷ [])) && all_read_none names (marks_of ms))
      by_type true e =
          ap (all_read_none names) (group_first m (marks_of ms) e)
          ∙ and_assoc (reads_none names (group_object 0 (out-VgMark m))) (all_read_none names (marks_of (marks_in (out-Group (out-VgMark m).group))))
          (all_read_none names (marks_of ms))
          ∙ sym (ap (λ first. all_read_none names first && all_read_none names (marks_of ms)) (group_first m NoMarks e))
      by_type false e =
          ap (all_read_none names) (plain_first m (marks_of ms) e)
          ∙ sym (ap (λ first. all_read_none names first && all_read_none names (marks_of ms)) (plain_first m NoMarks e))

  -- a mark alone
  pub group_reads : (m : VgMark) → is_group (out-VgMark m) ≡ true → group_reads_none names (out-VgMark m) ≡ all_read_none names (marks_of (m ∷ []))
  group_reads m e =
      ap (λ inside. reads_none names (group_object 0 (out-VgMark m)) && inside)
      (sym (and_true (all_read_none names (marks_of (marks_in (out-Group (out-VgMark m).group))))))
      ∙ sym (ap (all_read_none names) (group_first m NoMarks e))

  pub plain_reads : (m : VgMark) → is_group (out-VgMark m) ≡ false → true ≡ all_read_none names (marks_of (m ∷ []))
  plain_reads m e = sym (ap (all_read_none names) (plain_first m NoMarks e))

  module _ (marks : List VgMark) (i : ℕ) (m : VgMark) (kept : Bool) (within : i < length marks) (is : m ≡ get_or marks i m)
      (tested : kept ≡ all_read_none names (marks_of (m ∷ [])))
      (whole : all_read_none names (marks_of (drop i marks)) ≡ all_read_none names (marks_of marks)) where
    by_first : (all_read_none names (marks_of (m ∷ [])) && all_read_none names (marks_of (drop (i + 1) marks))) ≡ all_read_none names (marks_of marks)
    by_first =
        sym (ap (λ ms. all_read_none names (marks_of ms)) (drop_more marks i m within ∙ ap (λ one. one ∷ drop (i + 1) marks) (sym is))
        ∙ read_first m (drop (i + 1) marks))
        ∙ whole

    -- one that reads settles it
    pub reading_stops : kept ≡ false → false ≡ all_read_none names (marks_of marks)
    reading_stops fails = sym (ap (λ first. first && all_read_none names (marks_of (drop (i + 1) marks))) (sym tested ∙ fails)) ∙ by_first

    -- one that doesn't leaves the others
    pub reading_goes_on : kept ≡ true → all_read_none names (marks_of (drop (i + 1) marks)) ≡ all_read_none names (marks_of marks)
    reading_goes_on passes = sym (ap (λ first. first && all_read_none names (marks_of (drop (i + 1) marks))) (sym tested ∙ passes)) ∙ by_first

-- ---- Booleans and lists

both_true : (a b : Bool) → (a && b) ≡ true → (a ≡ true) × (b ≡ true)
both_true true b e = (refl, e)
both_true false b e = absurd (cc)

neither : (a b : Bool) → (a || b) ≡ false → (a ≡ false) × (b ≡ false)
neither true b e = absurd (cc)
neither false b e = (refl, e)

not_so : (b : Bool) → not b ≡ true → b ≡ false
not_so true e = absurd (cc)
not_so false e = refl

no_sets : (sets : List DataSet) → (length sets == 0) ≡ true → sets ≡ []
no_sets sets e = nil_from_length sets (eqb-true (length sets) 0 e)

-- ---- scopes that agree but for some names

module _ (hidden : List (List ℕ)) where
  abbrev Agree : Scope → Scope → Type 0
  Agree a b = (name : List ℕ) → is_one_of hidden name ≡ false → a name ≡ b name

  rows_agree : (a b : Scope) → Agree a b → (lists : List (List ℕ)) → list_any (is_one_of hidden) lists ≡ false → flat_map a lists ≡ flat_map b lists
  rows_agree a b agree [] none = refl
  rows_agree a b agree (l ∷ ls) none =
      let apart = neither (is_one_of hidden l) (list_any (is_one_of hidden) ls) none in
      ap₂ (λ rows others. rows ++ others) (agree l apart.0) (rows_agree a b agree ls apart.1)

  parts_agree : (a b : Scope) → Agree a b → (f : Facet) (key : List Cell) (own lists : List (List ℕ)) → list_any (is_one_of hidden) lists ≡ false
      → map (part_named a f key) (zip own lists) ≡ map (part_named b f key) (zip own lists)
  parts_agree a b agree f key [] lists none = refl
  parts_agree a b agree f key (n ∷ ns) [] none = refl
  parts_agree a b agree f key (n ∷ ns) (l ∷ ls) none =
      let apart = neither (is_one_of hidden l) (list_any (is_one_of hidden) ls) none in
      ap₂ (λ (rows : List Datum) (parts : List Dataset). record { name = n; rows = part_of f.groupby key rows } ∷ parts) (agree l apart.0)
      (parts_agree a b agree f key ns ls apart.1)

  -- they give a group the same copies
  copies_agree : (a b : Scope) → Agree a b → (o : Object) → divides_none hidden o.facet ≡ true → copies_of a o ≡ copies_of b o
  copies_agree a b agree o none = by_facet o.facet none
    where
      by_facet : (f : Option Facet) → divides_none hidden f ≡ true
          → option_map_or (copies_by a o.sort) f (only_copy ∷ []) ≡ option_map_or (copies_by b o.sort) f (only_copy ∷ [])
      by_facet None none = refl
      by_facet (Some f) none =
          let apart : list_any (is_one_of hidden) (texts_in f.data_) ≡ false = not_so (list_any (is_one_of hidden) (texts_in f.data_)) none in
          ap (λ rows. map (copy_with a f) (cells_of_copies (divided_by o.sort f) rows)) (rows_agree a b agree (texts_in f.data_) apart)
          ∙ (λ i. map (λ key. record { cells = Some (zip f.groupby key); parts = parts_agree a b agree f key (texts_in f.name) (texts_in f.data_) apart i })
          (cells_of_copies (divided_by o.sort f) (rows_divided b f)))

  -- also with the same lists of a copy
  with_parts_agree : (a b : Scope) → Agree a b → (parts : List Dataset) → Agree (with_parts parts a) (with_parts parts b)
  with_parts_agree a b agree [] = agree
  with_parts_agree a b agree (p ∷ ps) = λ name none.
      ap (λ (rows : List Datum). cond (bytes_eq p.name name) p.rows rows) (with_parts_agree a b agree ps name none)

module _ (sources : List Dataset) (hidden : List (List ℕ)) where
  -- what is counted in an object without data sets, where the counts agree
  in_object : (count : Names → Option ℕ) → ((m n : Names) → Agree hidden m.lists n.lists → count m ≡ count n)
      → (m n : Names) (o : Object) → o.sets ≡ [] → Agree hidden m.lists n.lists
      → (names_in_object sources m o >>= count) ≡ (names_in_object sources n o >>= count)
  in_object count same m n o none agree =
      let bare : o ≡ record o { sets = [] } = ap (λ (sets : List DataSet). record o { sets = sets }) none in
      subst (λ (o : Object). (names_in_object sources m o >>= count) ≡ (names_in_object sources n o >>= count)) (sym bare) (same _ _ agree)

  -- marks that read none of the hidden lists hold as many plots under both
  plots_agree : (marks : Marks) → all_read_none hidden marks ≡ true → (in_facet in_grid : Bool) (m n : Names) → Agree hidden m.lists n.lists
      → plots_in_facets sources marks in_facet in_grid m ≡ plots_in_facets sources marks in_facet in_grid n
  plots_agree NoMarks reads in_facet in_grid m n agree = refl
  plots_agree (AMark unit mark others) reads in_facet in_grid m n agree = plots_agree others reads in_facet in_grid m n agree
  plots_agree (AGroup o inside others) reads in_facet in_grid m n agree =
      let first = both_true (reads_none hidden o) (all_read_none hidden inside && all_read_none hidden others) reads in
      let rest = both_true (all_read_none hidden inside) (all_read_none hidden others) first.1 in
      let own = both_true (length o.sets == 0) (divides_none hidden o.facet) first.0 in
      let deeper : Bool = in_facet || is_some o.facet in
      let each : (copy : Copy) → (names_in_copy sources m o copy >>= λ here. plots_in_facets sources inside deeper (is_some o.layout) here)
      ≡ (names_in_copy sources n o copy >>= λ here. plots_in_facets sources inside deeper (is_some o.layout) here) = λ copy.
      in_object (λ here. plots_in_facets sources inside deeper (is_some o.layout) here)
      (λ a b both. plots_agree inside rest.0 deeper (is_some o.layout) a b both)
      (record m { lists = with_parts copy.parts m.lists }) (record n { lists = with_parts copy.parts n.lists }) o (no_sets o.sets own.0)
      (with_parts_agree hidden m.lists n.lists agree copy.parts) in
      (λ i. all_found (map (λ copy. each copy i) (copies_agree hidden m.lists n.lists agree o own.1 i)) >>= λ found.
      plots_agree others rest.1 in_facet in_grid m n agree i >>= λ more.
      Some (plots_among deeper in_grid o found + sum found + more))

-- ---- the copies of a group

-- names that no part has stand for what they stood for
hidden_parts : (part : List ℕ × List ℕ → Dataset) → ((named : List ℕ × List ℕ) → (part named).name ≡ named.0)
    → (own lists : List (List ℕ)) (scope : Scope) (name : List ℕ)
    → is_one_of own name ≡ false → with_parts (map part (zip own lists)) scope name ≡ scope name
hidden_parts part named [] lists scope name out = refl
hidden_parts part named (n ∷ ns) [] scope name out = refl
hidden_parts part named (n ∷ ns) (l ∷ ls) scope name out =
    let apart = neither (bytes_eq n name) (is_one_of ns name) out in
    ap (λ b. cond b (part (n, l)).rows (with_parts (map part (zip ns ls)) scope name)) (ap (λ own. bytes_eq own name) (named (n, l)) ∙ apart.0)
    ∙ hidden_parts part named ns ls scope name apart.1

all_the_same : {X : Type 0} (g : X → Copy) (count : Copy → Option ℕ) (c : Option ℕ) → ((x : X) → count (g x) ≡ c) → (xs : List X)
    → map count (map g xs) ≡ replicate (length (map g xs)) c
all_the_same g count c same [] = refl
all_the_same g count c same (x ∷ xs) = ap₂ (λ first others. first ∷ others) (same x) (all_the_same g count c same xs)

module _ (sources : List Dataset) (m : VgMark) (deeper in_grid : Bool) (names : Names) where
  abbrev count : Copy → Option ℕ
  count copy = plots_of_copy sources deeper in_grid (out-VgMark m) names copy

  same_count : (hidden : List (List ℕ)) → all_read_none hidden (marks_of (marks_in (out-Group (out-VgMark m).group))) ≡ true
      → (group_object 0 (out-VgMark m)).sets ≡ [] → (a b : Copy)
      → Agree hidden (with_parts a.parts names.lists) (with_parts b.parts names.lists) → count a ≡ count b
  same_count hidden reads none a b agree =
      ap (option_map (λ n. cond (is_panel deeper in_grid (out-VgMark m)) 1 0 + n))
      (in_object sources hidden (plots_inside sources deeper (out-VgMark m))
      (λ x y both. plots_agree sources hidden (marks_of (marks_in (out-Group (out-VgMark m).group)))
      reads deeper (is_some (out-Group (out-VgMark m).group).layout) x y both)
      (record names { lists = with_parts a.parts names.lists })
      (record names { lists = with_parts b.parts names.lists }) (group_object 0 (out-VgMark m)) none agree)

  by_facet : (sort : Option Sort) (f : Option Facet) → all_read_none (names_of_parts f) (marks_of (marks_in (out-Group (out-VgMark m).group))) ≡ true
      → (group_object 0 (out-VgMark m)).sets ≡ []
      → map count (option_map_or (copies_by names.lists sort) f (only_copy ∷ []))
      ≡ replicate (length (option_map_or (copies_by names.lists sort) f (only_copy ∷ []))) (count (bare_copy f))
  by_facet sort None reads none = refl
  by_facet sort (Some f) reads none =
      all_the_same (copy_with names.lists f) count (count (bare_by f))
      (λ key. same_count (texts_in f.name) reads none (copy_with names.lists f key) (bare_by f)
      (λ name out. hidden_parts (part_named names.lists f key) (λ named. refl) (texts_in f.name) (texts_in f.data_) names.lists name out
      ∙ sym (hidden_parts bare_part (λ named. refl) (texts_in f.name) (texts_in f.data_) names.lists name out)))
      (cells_of_copies (divided_by sort f) (rows_divided names.lists f))

  -- each copy of a group whose copies are alike holds as many plots as one without rows
  pub copies_alike : are_alike (group_object 0 (out-VgMark m)) (marks_of (marks_in (out-Group (out-VgMark m).group))) ≡ true
      → map (λ copy. plots_of_copy sources deeper in_grid (out-VgMark m) names copy) (copies_of names.lists (group_object 0 (out-VgMark m)))
      ≡ replicate (length (copies_of names.lists (group_object 0 (out-VgMark m))))
      (plots_of_copy sources deeper in_grid (out-VgMark m) names (bare_copy (facet_in (out-VgMark m).from)))
  copies_alike alike =
      let both = both_true (length (group_object 0 (out-VgMark m)).sets == 0)
      (all_read_none (names_of_parts (facet_in (out-VgMark m).from)) (marks_of (marks_in (out-Group (out-VgMark m).group)))) alike in
      by_facet (out-VgMark m).sort (facet_in (out-VgMark m).from) both.1 (no_sets (group_object 0 (out-VgMark m)).sets both.0)
