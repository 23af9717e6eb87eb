-- What is found of the copies of a specification is of it: a copy has a cell for each field of its facet, and what its scales scale fits them.
use Rattle.std.proofs.Common.{◌≡◌, ℕ, suc, Bool, true, false, cond, Option, Some, None, List, [], ◌∷◌, ◌++◌, map, length, refl, sym, ap, subst, ◌∙◌}
use Rattle.std.specs.Prelude.{zip, flat_map, is_some}
use Rattle.std.specs.Option.{option_map, option_map_or}
use Rattle.std.specs.List.{AllZip, list_any, enumerate_from}
use Rattle.std.specs.declared.cmp.Ordering.{Ordering}
use Rattle.std.specs.declared.cmp.Ordering.TheVariants.{Less, Equal, Greater}
use Rattle.std.proofs.lemmas.List.{length-map}
use Rattle.std.proofs.lemmas.List.FromFn.{length-enumerate_from}
use Rattle.fixed_num.specs.Ranges.{◌>>=◌, all_found}
use Rattle.cell_value.specs.declared.cell.Cell.{Cell}
use Rattle.cell_value.specs.Datum.{Datum}
use Rattle.cell_value.specs.State.{Dataset}
use Rattle.tick_kit.specs.Domains.{placed_in, ascending}
use Rattle.plain_groups.specs.Groups.{firsts_behind}
use Rattle.plain_facets.specs.declared.copies.DividedBy.{DividedBy}
use Rattle.plain_facets.specs.Facets.{key_of, distinct_keys, by_places, choices, cells_of_fields, cells_of_rows, cells_of_copies, is_key}
use Rattle.vega_spec.specs.declared.marks.Facet.{Facet}
use Rattle.vega_spec.specs.declared.orders.Sort.{Sort}
use Rattle.vega_lists.specs.Scopes.{Scope}
use Rattle.vega_scales.specs.declared.scaled.Scaled.{Scaled}
use Rattle.vega_scales.specs.Scales.{domain_of, FitsScale}
use Rattle.vega_scales.proofs.FitsLemmas.{domain_fits}
use Rattle.vega_copies.specs.Outlines.{Object, Marks, NoMarks, AMark, AGroup}
use Rattle.vega_copies.specs.Scopes.{Names, keeps_signals}
use Rattle.vega_copies.specs.Facets.{Copy, divided_by, rows_divided, copy_with, copies_by, copies_of, only_copy, columns_across}
use Rattle.vega_copies.specs.CopyNames.{names_in_copy}
use Rattle.vega_copies.specs.Facts.{Facts, Found, FoundOf, NoCopies, CopyFound, copies_in, gathered, first_copies, behind_first}
use Rattle.vega_copies.specs.Facts.{facts_here, copy_found, found_in, facts_of}
use Rattle.selection_events.proofs.FieldLemmas.{field_of}
use Rattle.vega_meaning.proofs.Stretches.{own_fields}

-- ---- lists

-- each element has the property
abbrev pub Each : {X : Type 0} → (X → Type 0) → List X → Type 0
Each P [] = Unit {0}
Each P (x ∷ xs) = P x × Each P xs

pub each_weaker : {X : Type 0} (P Q : X → Type 0) → ((x : X) → P x → Q x) → (xs : List X) → Each P xs → Each Q xs
each_weaker P Q says [] h = tt
each_weaker P Q says (x ∷ xs) h = (says x h.0, each_weaker P Q says xs h.1)

pub each-append : {X : Type 0} (P : X → Type 0) (xs ys : List X) → Each P xs → Each P ys → Each P (xs ++ ys)
each-append P [] ys h k = k
each-append P (x ∷ xs) ys h k = (h.0, each-append P xs ys h.1 k)

pub each-map : {X Y : Type 0} (P : Y → Type 0) (f : X → Y) (xs : List X) → Each (λ x. P (f x)) xs → Each P (map f xs)
each-map P f [] h = tt
each-map P f (x ∷ xs) h = (h.0, each-map P f xs h.1)

pub each_of_all : {X : Type 0} (P : X → Type 0) → ((x : X) → P x) → (xs : List X) → Each P xs
each_of_all P all [] = tt
each_of_all P all (x ∷ xs) = (all x, each_of_all P all xs)

each-flat : {X Y : Type 0} (P : Y → Type 0) (f : X → List Y) → ((x : X) → Each P (f x)) → (xs : List X) → Each P (flat_map f xs)
each-flat P f all [] = tt
each-flat P f all (x ∷ xs) = each-append P (f x) (flat_map f xs) (all x) (each-flat P f all xs)

-- what is given of each has what it is given to have
given_step : {X Y : Type 0} (f : X → Option Y) (Q : Y → Type 0) (x : X) (ys : List Y) (more : Option (List Y)) → ((y : Y) → f x ≡ Some y → Q y)
    → ((zs : List Y) → more ≡ Some zs → Each Q zs) → (o : Option Y) → f x ≡ o → (o >>= λ y. more >>= λ zs. Some (y ∷ zs)) ≡ Some ys → Each Q ys
given_step f Q x ys more here rest None is e = absurd (cc e)
given_step f Q x ys None here rest (Some y) is e = absurd (cc e)
given_step f Q x ys (Some zs) here rest (Some y) is e = let same : y ∷ zs ≡ ys = cc e in subst (Each Q) same (here y is, rest zs refl)

pub all_given : {X Y : Type 0} (f : X → Option Y) (P : X → Type 0) (Q : Y → Type 0) → ((x : X) → P x → (y : Y) → f x ≡ Some y → Q y) → (xs : List X)
    → Each P xs → (ys : List Y) → all_found (map f xs) ≡ Some ys → Each Q ys
all_given f P Q says [] h ys e = let same : [] ≡ ys = cc e in subst (Each Q) same tt
all_given f P Q says (x ∷ xs) h ys e =
    given_step f Q x ys (all_found (map f xs)) (says x h.0) (λ zs is. all_given f P Q says xs h.1 zs is) (f x) refl e

zip_step : {X Y : Type 0} (f : X → Option Y) (R : X → Y → Type 0) (x : X) (xs : List X) (ys : List Y) (more : Option (List Y))
    → ((y : Y) → f x ≡ Some y → R x y) → ((zs : List Y) → more ≡ Some zs → AllZip R xs zs) → (o : Option Y) → f x ≡ o
    → (o >>= λ y. more >>= λ zs. Some (y ∷ zs)) ≡ Some ys → AllZip R (x ∷ xs) ys
zip_step f R x xs ys more here rest None is e = absurd (cc e)
zip_step f R x xs ys None here rest (Some y) is e = absurd (cc e)
zip_step f R x xs ys (Some zs) here rest (Some y) is e = let same : y ∷ zs ≡ ys = cc e in subst (AllZip R (x ∷ xs)) same (here y is, rest zs refl)

zip_given : {X Y : Type 0} (f : X → Option Y) (R : X → Y → Type 0) → ((x : X) (y : Y) → f x ≡ Some y → R x y) → (xs : List X) (ys : List Y)
    → all_found (map f xs) ≡ Some ys → AllZip R xs ys
zip_given f R says [] ys e = let same : [] ≡ ys = cc e in subst (AllZip R []) same tt
zip_given f R says (x ∷ xs) ys e = zip_step f R x xs ys (all_found (map f xs)) (says x) (λ zs is. zip_given f R says xs zs is) (f x) refl e

-- ---- the cells of copies

-- so many cells
abbrev AreSoMany : ℕ → List Cell → Type 0
AreSoMany n cells = length cells ≡ n

choices_long : (lists : List (List Cell)) → Each (AreSoMany (length lists)) (choices lists)
choices_long [] = (refl, tt)
choices_long (cells ∷ others) =
    each-flat (AreSoMany (suc (length others))) (λ cell. map (λ rest. cell ∷ rest) (choices others))
    (λ cell. each-map (AreSoMany (suc (length others))) (λ rest. cell ∷ rest) (choices others)
    (each_weaker (AreSoMany (length others)) (λ rest. length (cell ∷ rest) ≡ suc (length others))
    (λ rest is. ap suc is) (choices others) (choices_long others)))
    cells

each_first : {X : Type 0} (P : X → Type 0) (alike : X → X → Bool) (before xs : List X) → Each P xs → Each P (firsts_behind alike before xs)
each_first P alike before [] h = tt
each_first P alike before (x ∷ xs) h =
    by_test (list_any (λ y. alike y x) before) (each_first P alike (before ++ x ∷ []) xs h.1)
  where
    by_test : (b : Bool) → Each P (firsts_behind alike (before ++ x ∷ []) xs)
        → Each P (cond b (firsts_behind alike (before ++ x ∷ []) xs) (x ∷ firsts_behind alike (before ++ x ∷ []) xs))
    by_test true rest = rest
    by_test false rest = (h.0, rest)

by_ordering : {P : Type 0} (o : Ordering) → (o ≡ Less → P) → (o ≡ Equal → P) → (o ≡ Greater → P) → P
by_ordering Less less same more = less refl
by_ordering Equal less same more = same refl
by_ordering Greater less same more = more refl

each_placed : {X : Type 0} (P : X → Type 0) (order : X → X → Ordering) (c : X) (ds : List X) → P c → Each P ds → Each P (placed_in order c ds)
each_placed P order c [] here h = (here, tt)
each_placed P order c (d ∷ ds) here h =
    by_ordering (order c d) (λ e. rw e (here, h)) (λ e. rw e h) (λ e. rw e (h.0, each_placed P order c ds here h.1))

each_ascending : {X : Type 0} (P : X → Type 0) (order : X → X → Ordering) (cs : List X) → Each P cs → Each P (ascending order cs)
each_ascending P order [] h = tt
each_ascending P order (c ∷ cs) h = each_placed P order c (ascending order cs) h.0 (each_ascending P order cs h.1)

module _ (d : DividedBy) (rows : List Datum) where
  keys_long : Each (AreSoMany (length d.fields)) (map (key_of d.fields) rows)
  keys_long =
      each-map (AreSoMany (length d.fields)) (key_of d.fields) rows
      (each_of_all (λ (row : Datum). length (key_of d.fields row) ≡ length d.fields) (λ row. length-map d.fields row.cell) rows)

  rows_long : (b : Bool) → Each (AreSoMany (length d.fields))
      (cond b (ascending (by_places (cells_of_fields d rows)) (map (key_of d.fields) rows)) (distinct_keys (map (key_of d.fields) rows)))
  rows_long true = each_ascending (AreSoMany (length d.fields)) (by_places (cells_of_fields d rows)) (map (key_of d.fields) rows) keys_long
  rows_long false = each_first (AreSoMany (length d.fields)) is_key [] (map (key_of d.fields) rows) keys_long

  as_many_fields : length (cells_of_fields d rows) ≡ length d.fields
  as_many_fields = length-map (enumerate_from 0 d.fields) _ ∙ length-enumerate_from 0 d.fields

  by_crossing : (b : Bool) → Each (AreSoMany (length d.fields)) (cond b (choices (cells_of_fields d rows)) (cells_of_rows d rows))
  by_crossing true = subst (λ n. Each (AreSoMany n) (choices (cells_of_fields d rows))) as_many_fields (choices_long (cells_of_fields d rows))
  by_crossing false = rows_long (is_some d.sort)

  copies_long : Each (AreSoMany (length d.fields)) (cells_of_copies d rows)
  copies_long = by_crossing d.crosses

-- the fields of some cells
abbrev pub fields_of_cells : Option (List (List ℕ × Cell)) → Option (List (List ℕ))
fields_of_cells cells = option_map (map field_of) cells

zip_fields : (fields : List (List ℕ)) (cells : List Cell) → length cells ≡ length fields → map field_of (zip fields cells) ≡ fields
zip_fields [] cells long = refl
zip_fields (f ∷ fs) [] long = absurd (cc long)
zip_fields (f ∷ fs) (c ∷ cs) long = ap (λ rest. f ∷ rest) (zip_fields fs cs (cc long))

copies_have : (scope : Scope) (sort : Option Sort) (f : Option Facet)
    → Each (λ (c : Copy). fields_of_cells c.cells ≡ option_map (λ (x : Facet). x.groupby) f) (option_map_or (copies_by scope sort) f (only_copy ∷ []))
copies_have scope sort None = (refl, tt)
copies_have scope sort (Some f) =
    each-map (λ (c : Copy). fields_of_cells c.cells ≡ Some f.groupby) (copy_with scope f) (cells_of_copies (divided_by sort f) (rows_divided scope f))
    (each_weaker (AreSoMany (length f.groupby)) (λ cells. fields_of_cells (copy_with scope f cells).cells ≡ Some f.groupby)
    (λ cells long. ap Some (zip_fields f.groupby cells long)) (cells_of_copies (divided_by sort f) (rows_divided scope f))
    (copies_long (divided_by sort f) (rows_divided scope f)))

-- ---- what is found

-- facts are of a copy of an object
pub record FactsAre (o : Object) (facts : Facts) : Type 0 where
  pub cells : fields_of_cells facts.cells ≡ own_fields o
  pub domains : AllZip FitsScale o.scales facts.domains

-- what is found is of marks
abbrev pub FoundIs : Marks → Found → Type 0
FoundIs NoMarks found = Unit {0}
FoundIs (AMark unit m others) found = FoundIs others (behind_first found)
FoundIs (AGroup o inside others) found =
    Each (λ (c : CopyFound). FactsAre o c.facts × FoundIs inside c.inside) (first_copies found) × FoundIs others (behind_first found)

abbrev facts_over : Option (List (List ℕ × Cell)) → Names → List Scaled → Facts
facts_over cells names domains = record { cells = cells; names = names; domains = domains }

facts_from : (cells : Option (List (List ℕ × Cell))) (o : Object) (names : Names) (facts : Facts) → fields_of_cells cells ≡ own_fields o → (b : Bool)
    → (found : Option (List Scaled)) → all_found (map (domain_of names.values names.lists) o.scales) ≡ found
    → cond b (option_map (facts_over cells names) found) None ≡ Some facts → FactsAre o facts
facts_from cells o names facts own false found is e = absurd (cc e)
facts_from cells o names facts own true None is e = absurd (cc e)
facts_from cells o names facts own true (Some domains) is e =
    let same : facts_over cells names domains ≡ facts = cc e in
    subst (FactsAre o) same (record {
      cells = own;
      domains = zip_given (domain_of names.values names.lists) FitsScale (domain_fits names.values names.lists) o.scales domains is;
    })

pub facts_are : (cells : Option (List (List ℕ × Cell))) (o : Object) (names : Names) (facts : Facts) → fields_of_cells cells ≡ own_fields o
    → facts_here cells o names ≡ Some facts → FactsAre o facts
facts_are cells o names facts own e =
    facts_from cells o names facts own (keeps_signals names o) (all_found (map (domain_of names.values names.lists) o.scales)) refl e

-- a copy, from its facts and what is found in it
abbrev copy_of : Facts → Found → CopyFound
copy_of facts inside = record { facts = facts; inside = inside }

copy_parts : (facts : Option Facts) (inside : Option Found) (c : CopyFound)
    → (facts >>= λ f. inside >>= λ i. Some (copy_of f i)) ≡ Some c → (facts ≡ Some c.facts) × (inside ≡ Some c.inside)
copy_parts None inside c e = absurd (cc e)
copy_parts (Some f) None c e = absurd (cc e)
copy_parts (Some f) (Some i) c e =
    let same : copy_of f i ≡ c = cc e in (ap (λ (x : CopyFound). Some x.facts) same, ap (λ (x : CopyFound). Some x.inside) same)

copies-gathered : (copies : List CopyFound) → copies_in (gathered copies) ≡ copies
copies-gathered [] = refl
copies-gathered (c ∷ cs) = ap (λ rest. c ∷ rest) (copies-gathered cs)

group_parts : (copies : Option (List CopyFound)) (rest : Option Found) (across : Option ℕ) (found : Found)
    → (copies >>= λ cs. rest >>= λ r. Some (FoundOf (gathered cs) across r)) ≡ Some found
    → (cs : List CopyFound) × (copies ≡ Some cs) × (first_copies found ≡ cs) × (rest ≡ Some (behind_first found))
group_parts None rest across found e = absurd (cc e)
group_parts (Some cs) None across found e = absurd (cc e)
group_parts (Some cs) (Some r) across found e =
    let same : FoundOf (gathered cs) across r ≡ found = cc e in
    (cs, refl, ap first_copies (sym same) ∙ copies-gathered cs, ap (λ x. Some (behind_first x)) same)

one_found : (rest : Option Found) (found : Found) → option_map (FoundOf NoCopies None) rest ≡ Some found → rest ≡ Some (behind_first found)
one_found None found e = absurd (cc e)
one_found (Some r) found e = let same : FoundOf NoCopies None r ≡ found = cc e in ap (λ x. Some (behind_first x)) same

module _ (sources : List Dataset) where
  copy_is : (names : Names) (o : Object) (inside : Marks) → ((here : Names) (found : Found) → found_in sources inside here ≡ Some found → FoundIs inside found)
      → (copy : Copy) → fields_of_cells copy.cells ≡ own_fields o → (c : CopyFound) → (here : Option Names)
      → (here >>= λ names. copy_found copy.cells o names (found_in sources inside names)) ≡ Some c → FactsAre o c.facts × FoundIs inside c.inside
  copy_is names o inside says copy own c None e = absurd (cc e)
  copy_is names o inside says copy own c (Some here) e =
      let parts = copy_parts (facts_here copy.cells o here) (found_in sources inside here) c e in
      (facts_are copy.cells o here c.facts own parts.0, says here c.inside parts.1)

  pub found_is : (marks : Marks) (names : Names) (found : Found) → found_in sources marks names ≡ Some found → FoundIs marks found
  found_is NoMarks names found e = tt
  found_is (AMark unit m others) names found e = found_is others names (behind_first found) (one_found (found_in sources others names) found e)
  found_is (AGroup o inside others) names found e =
      let give : Copy → Option CopyFound = λ copy. names_in_copy sources names o copy >>= λ here.
      copy_found copy.cells o here (found_in sources inside here) in
      let parts = group_parts (all_found (map give (copies_of names.lists o))) (found_in sources others names) (columns_across names.lists o) found e in
      let each = all_given give (λ (copy : Copy). fields_of_cells copy.cells ≡ own_fields o) (λ (c : CopyFound). FactsAre o c.facts × FoundIs inside c.inside)
      (λ copy own c is. copy_is names o inside (λ here found is. found_is inside here found is) copy own c (names_in_copy sources names o copy) is)
      (copies_of names.lists o) (copies_have names.lists o.sort o.facet) parts.0 parts.1 in (
        subst (Each (λ (c : CopyFound). FactsAre o c.facts × FoundIs inside c.inside)) (sym parts.2) each,
        found_is others names (behind_first found) parts.3,
      )

  -- the top, as the one copy of itself
  pub top_is : (o : Object) (marks : Marks) (names : Names) (c : CopyFound) → own_fields o ≡ None → facts_of sources o marks names ≡ Some c
      → FactsAre o c.facts × FoundIs marks c.inside
  top_is o marks names c none e =
      let parts = copy_parts (facts_here None o names) (found_in sources marks names) c e in
      (facts_are None o names c.facts (sym none) parts.0, found_is marks names c.inside parts.1)
