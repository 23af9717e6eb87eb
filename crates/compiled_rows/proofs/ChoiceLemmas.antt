-- Why the cells of copies are those of panels.
use Rattle.std.proofs.Common.{◌≡◌, ◌≢◌, ◌⊎◌, inl, inr, ⊎_elim, ℕ, ◌+◌, ◌<◌, ◌≤◌, ◌||◌, Bool, true, false, cond, Option, Some, None, List, [], ◌∷◌, ◌++◌}
use Rattle.std.proofs.Common.{map, flat_map, find, length, reverse, unwrap_or, All, AllPairs, refl, sym, ap, ap₂, ◌∙◌, subst, arith, append_assoc}
use Rattle.std.specs.Prelude.{slice_get}
use Rattle.std.specs.List.{list_any, position_from}
use Rattle.std.specs.Option.{option_map, option_map_or}
use Rattle.std.specs.Ordering.{nat_cmp, ordering_then}
use Rattle.std.specs.declared.cmp.Ordering.{Ordering}
use Rattle.std.specs.declared.cmp.Ordering.TheVariants.{Less, Equal, Greater}
use Rattle.std.specs.Cmp.Lexicographic.{slice_cmp}
use Rattle.std.specs.FinMap.{slice_cmp-IsAntisymmetric}
use Rattle.std.specs.Str.{bytes_eq}
use Rattle.std.proofs.lemmas.Bool.Decides.{nat_tests}
use Rattle.std.proofs.lemmas.List.{map-append, append-nil, reverse-append}
use Rattle.std.proofs.lemmas.List.Elements.{All-weaker, All-nil, All-cons, All-head, All-tail, All-map}
use Rattle.std.proofs.lemmas.Slice.Eq.{bytes_eq-Decides}
use Rattle.cell_value.specs.declared.cell.Cell.{Cell}
use Rattle.cell_value.specs.declared.cell.Cell.TheVariants.{Null}
use Rattle.cell_value.specs.Cell.{cell_cmp, same_cells}
use Rattle.cell_value.specs.Datum.{Datum}
use Rattle.cell_value.specs.inner.CellOrder.{cell_cmp_total, same_cells_tell, only_equal_cells_tie}
use Rattle.tick_kit.specs.Domains.{ascending}
use Rattle.plain_rows.specs.declared.transforms.SortBy.{SortBy}
use Rattle.plain_groups.specs.Groups.{firsts_behind, firsts}
use Rattle.plain_groups.proofs.PlaceLemmas.{same_are_equal, same_itself, lone_keys}
use Rattle.plain_facets.specs.declared.copies.DividedBy.{DividedBy}
use Rattle.plain_facets.specs.Facets.{key_of, is_key, part_of, cells_in, pairs_in, first_beside, by_beside, cells_of_field}
use Rattle.plain_facets.specs.Facets.{choices, place_among, places_among, by_places, cells_of_fields, cells_of_copies}
use Rattle.plain_facets.proofs.DifferentLemmas.{copies_are_different, by_places_total, by_beside_total, head_apart, tail_pairs}
use Rattle.domain_kit.specs.Orders.{in_direction}
use Rattle.vega_spec.specs.declared.marks.Cross.{Cross}
use Rattle.vega_lists.specs.Orders.{sort_settings}
use Rattle.vega_copies.specs.Facets.{crosses}
use Rattle.plan_kit.specs.declared.grids.FacetField.{FacetField}
use Rattle.chart_meaning.specs.Parts.{Copy, cells_below, occurs_in}
use Rattle.vega_assemble.specs.Facets.{crossing}
use Rattle.compiled_rows.specs.Parts.{is_one_of, CopiesAreChoices, HaveCellsOf, FirstCellsAreThese, DirectedCellsAreThese, AreCovered, PartsAreCovered}
use Rattle.compiled_rows.specs.Parts.{CoveredHaveCells}
use Rattle.compiled_rows.proofs.PartLemmas.{by_cases, or_left, or_right, or_either, any_left, map_joined}
use Rattle.compiled_rows.proofs.RisingLemmas.{Has, Rises, has_left, has_right, has_either, rises_too, rises_on, from_ascending, to_ascending, ascending_rises}
use Rattle.compiled_rows.proofs.RisingLemmas.{ascending_is}

-- ---- keys of one cell

abbrev alone : Cell → List Cell
alone c = c ∷ []

lone_choices : (cells : List Cell) → choices (cells ∷ []) ≡ map alone cells
lone_choices [] = refl
lone_choices (c ∷ cells) = ap (λ l. alone c ∷ l) (lone_choices cells)

keys_alone : (name : List ℕ) (rows : List Datum) → map (key_of (name ∷ [])) rows ≡ map alone (cells_in name rows)
keys_alone name [] = refl
keys_alone name (row ∷ rows) = ap (λ l. alone (row.cell name) ∷ l) (keys_alone name rows)

any_alone : (before : List Cell) (x : Cell) → list_any (λ y. is_key y (alone x)) (map alone before) ≡ list_any (λ y. same_cells y x) before
any_alone [] x = refl
any_alone (b ∷ before) x = ap₂ (λ p q. p || q) (lone_keys b x) (any_alone before x)

map_either : {X Y : Type 0} (f : X → Y) (b : Bool) (xs ys : List X) → map f (cond b xs ys) ≡ cond b (map f xs) (map f ys)
map_either f true xs ys = refl
map_either f false xs ys = refl

firsts_alone : (before cells : List Cell) → firsts_behind is_key (map alone before) (map alone cells) ≡ map alone (firsts_behind same_cells before cells)
firsts_alone before [] = refl
firsts_alone before (x ∷ xs) =
    let later = firsts_behind same_cells (before ++ x ∷ []) xs in
    let rest : firsts_behind is_key (map alone before ++ alone x ∷ []) (map alone xs) ≡ map alone later =
    ap (λ b. firsts_behind is_key b (map alone xs)) (sym (map-append alone before (x ∷ []))) ∙ firsts_alone (before ++ x ∷ []) xs in
    (λ i. cond (any_alone before x i) (rest i) (alone x ∷ rest i))
    ∙ sym (map_either alone (list_any (λ y. same_cells y x) before) later (x ∷ later))

-- ---- lists without repeats

abbrev pub Other : {X : Type 0} → X → X → Type 0
Other x y = x ≢ y

pub has_at : {X : Type 0} (P : X → Type 0) (xs : List X) (z : X) → All P xs → Has xs z → P z
has_at P [] z h there = absurd there
has_at P (x ∷ xs) z h there = ⊎_elim (λ is. subst P is (All-head P x xs h)) (λ later. has_at P xs z (All-tail P x xs h) later) there

pub all_apart : {X : Type 0} (xs : List X) → AllPairs (λ a b. a ≢ b) xs → Rises Other xs
all_apart [] h = tt
all_apart (x ∷ xs) h = ((λ z there. has_at (λ y. x ≢ y) xs z (head_apart (λ a b. a ≢ b) x xs h) there), all_apart xs (tail_pairs (λ a b. a ≢ b) x xs h))

has_alone : (cells : List Cell) (c : Cell) → Has cells c → Has (map alone cells) (alone c)
has_alone [] c h = h
has_alone (x ∷ cells) c h = ⊎_elim (λ is. inl (ap alone is)) (λ later. inr (has_alone cells c later)) h

from_alone : (cells : List Cell) (key : List Cell) → Has (map alone cells) key → (c : Cell) × (alone c ≡ key) × Has cells c
from_alone [] key h = absurd h
from_alone (x ∷ cells) key h =
    ⊎_elim (λ is. (x, is, inl refl)) (λ later. let (c, is, there) = from_alone cells key later in (c, is, inr there)) h

apart_alone : (cells : List Cell) → Rises Other (map alone cells) → Rises Other cells
apart_alone [] h = tt
apart_alone (x ∷ cells) (above, rest) = ((λ z there is. above (alone z) (has_alone cells z there) (ap alone is)), apart_alone cells rest)

-- ---- places

not_same : (x z : Cell) → x ≢ z → same_cells x z ≡ false
not_same x z apart = by_cases (same_cells x z) (λ e. absurd (apart ((same_cells_tell x z).0 e))) (λ e. e)

same_itself_cell : (x : Cell) → same_cells x x ≡ true
same_itself_cell x = (same_cells_tell x x).1 refl

-- the first place at which a cell stands
abbrev stands_at : ℕ → List Cell → Cell → Option ℕ
stands_at n cells z = position_from (λ other. same_cells other z) n cells

there_behind : (b : Bool) (n : ℕ) (o : Option ℕ) → (k : ℕ) × (o ≡ Some k) × ((n + 1) ≤ k) → (k : ℕ) × (cond b (Some n) o ≡ Some k) × (n ≤ k)
there_behind true n o h = (n, refl, omega arith)
there_behind false n o (k, is, on) = (k, is, omega (arith, on))

stands : (n : ℕ) (cells : List Cell) (z : Cell) → Has cells z → (k : ℕ) × (stands_at n cells z ≡ Some k) × (n ≤ k)
stands n [] z h = absurd h
stands n (x ∷ cells) z h =
    ⊎_elim (λ is. (n, ap (λ b. cond b (Some n) (stands_at (n + 1) cells z)) (subst (λ w. same_cells x w ≡ true) is (same_itself_cell x)), omega arith))
    (λ later. there_behind (same_cells x z) n (stands_at (n + 1) cells z) (stands (n + 1) cells z later)) h

some_is : (a b : ℕ) → Some a ≡ Some b → a ≡ b
some_is a b e = cc

-- cells without repeats rise by their places
rise_by_place : (place : Cell → ℕ) (n : ℕ) (cells : List Cell) → Rises Other cells → ((z : Cell) → Has cells z → Some (place z) ≡ stands_at n cells z)
    → Rises (λ a b. place a < place b) cells
rise_by_place place n [] h k = tt
rise_by_place place n (x ∷ cells) (above, rest) k =
    let first : place x ≡ n = some_is (place x) n (k x (inl refl) ∙ ap (λ b. cond b (Some n) (stands_at (n + 1) cells x)) (same_itself_cell x)) in
    let behind : (z : Cell) → Has cells z → Some (place z) ≡ stands_at (n + 1) cells z =
    λ z there. k z (inr there) ∙ ap (λ b. cond b (Some n) (stands_at (n + 1) cells z)) (not_same x z (above z there)) in (
      (λ z there. let (m, is, on) = stands (n + 1) cells z there in
          let at : place z ≡ m = some_is (place z) m (behind z there ∙ is) in omega (arith, first, at, on)),
      rise_by_place place (n + 1) cells rest behind,
    )

place_is : (cells : List Cell) (z : Cell) → Has cells z → Some (place_among cells z) ≡ stands_at 0 cells z
place_is cells z there =
    let (k, is, on) = stands 0 cells z there in ap (λ o. Some (unwrap_or o (length cells))) is ∙ sym is

nat_before : (a b : ℕ) → a < b → nat_cmp a b ≡ Less
nat_before a b h = grind (arith, nat_tests)

module _ (cells : List Cell) where
  abbrev by_place : List Cell → List Cell → Ordering
  by_place = by_places (cells ∷ [])

  then_same : (r s : Ordering) → ordering_then r s ≡ Equal → s ≡ Equal
  then_same Less s e = absurd (cc)
  then_same Equal s e = e
  then_same Greater s e = absurd (cc)

  by_place_exact : (a b : List Cell) → by_place a b ≡ Equal → a ≡ b
  by_place_exact a b e =
      slice_cmp-IsAntisymmetric only_equal_cells_tie a b
      (then_same (slice_cmp nat_cmp (places_among (cells ∷ []) a) (places_among (cells ∷ []) b)) (slice_cmp cell_cmp a b) e)

  keys_rise : (xs : List Cell) → Rises (λ a b. place_among cells a < place_among cells b) xs → Rises (λ a b. by_place a b ≡ Less) (map alone xs)
  keys_rise [] h = tt
  keys_rise (x ∷ xs) (above, rest) = (
    (λ key there. let (z, is, within) = from_alone xs key there in
        subst (λ k. by_place (alone x) k ≡ Less) is
        (ap (λ r. ordering_then (ordering_then r Equal) (slice_cmp cell_cmp (alone x) (alone z)))
        (nat_before (place_among cells x) (place_among cells z) (above z within)))),
    keys_rise xs rest,
  )

-- ---- the cells of a field

has_firsts : (before cells : List Cell) (z : Cell) → Has (firsts_behind same_cells before cells) z → Has cells z
has_firsts before [] z h = h
has_firsts before (x ∷ xs) z h = by (list_any (λ y. same_cells y x) before) (has_firsts (before ++ x ∷ []) xs z) h
  where
    by : (b : Bool) → (Has (firsts_behind same_cells (before ++ x ∷ []) xs) z → Has xs z)
        → Has (cond b (firsts_behind same_cells (before ++ x ∷ []) xs) (x ∷ firsts_behind same_cells (before ++ x ∷ []) xs)) z → (x ≡ z) ⊎ Has xs z
    by true later h = inr (later h)
    by false later h = ⊎_elim (λ is. inl is) (λ k. inr (later k)) h

abbrev seen : List Cell → Cell → Bool
seen before z = list_any (λ y. same_cells y z) before

or_false : (a b : Bool) → a ≡ false → b ≡ false → (a || (b || false)) ≡ false
or_false true b e h = absurd (cc)
or_false false true e h = absurd (cc)
or_false false false e h = refl

never_seen : {P : Type 0} (b : Bool) → b ≡ true → b ≡ false → P
never_seen true e h = absurd (cc)
never_seen false e h = absurd (cc)

seen_with : (before : List Cell) (x z : Cell) → seen before z ≡ false → same_cells x z ≡ false → seen (before ++ x ∷ []) z ≡ false
seen_with [] x z e h = or_false false (same_cells x z) refl h
seen_with (b ∷ before) x z e h = by (same_cells b z) e (seen_with before x z)
  where
    by : (t : Bool) → (t || seen before z) ≡ false → (seen before z ≡ false → same_cells x z ≡ false → seen (before ++ x ∷ []) z ≡ false)
        → (t || seen (before ++ x ∷ []) z) ≡ false
    by true e more = absurd (cc)
    by false e more = more e h

to_firsts : (before cells : List Cell) (z : Cell) → seen before z ≡ false → Has cells z → Has (firsts_behind same_cells before cells) z
to_firsts before [] z e h = h
to_firsts before (x ∷ xs) z e h =
    by_cases (same_cells x z)
    (λ same. let is : x ≡ z = (same_cells_tell x z).0 same in
    subst (λ b. Has (cond b later (x ∷ later)) z) (sym (ap (seen before) is ∙ e)) (inl is))
    (λ other. let there : Has later z = to_firsts (before ++ x ∷ []) xs z (seen_with before x z e other)
    (⊎_elim (λ is. never_seen (same_cells x z) (subst (λ w. same_cells x w ≡ true) is (same_itself_cell x)) other) (λ k. k) h) in
    either (seen before x) there)
  where
    later : List Cell
    later = firsts_behind same_cells (before ++ x ∷ []) xs

    either : (b : Bool) → Has later z → Has (cond b later (x ∷ later)) z
    either true k = k
    either false k = inr k

firsts_in_pairs : (field other : List ℕ) (rows : List Datum) → map (λ (pair : Cell × Cell). pair.0) (pairs_in field other rows) ≡ cells_in field rows
firsts_in_pairs field other [] = refl
firsts_in_pairs field other (row ∷ rows) = ap (λ l. row.cell field ∷ l) (firsts_in_pairs field other rows)

then_same_cells : (r : Ordering) (a b : Cell) → ordering_then r (cell_cmp a b) ≡ Equal → a ≡ b
then_same_cells Less a b e = absurd (cc)
then_same_cells Equal a b e = only_equal_cells_tie a b e
then_same_cells Greater a b e = absurd (cc)

beside_exact : (descending : Bool) (beside : Cell → Cell) (a b : Cell) → by_beside descending beside a b ≡ Equal → a ≡ b
beside_exact descending beside a b e = then_same_cells (cond descending (cell_cmp (beside b) (beside a)) (cell_cmp (beside a) (beside b))) a b e

from_field : (rows : List Datum) (s : Option SortBy) (name : List ℕ) (z : Cell) → Has (cells_of_field rows s name) z → Has (cells_in name rows) z
from_field rows None name z h = has_firsts [] (cells_in name rows) z h
from_field rows (Some s) name z h =
    let pairs = pairs_in name s.field rows in
    subst (λ l. Has l z) (firsts_in_pairs name s.field rows)
    (from_ascending (by_beside s.descending (first_beside pairs)) (by_beside_total s.descending (first_beside pairs))
    (beside_exact s.descending (first_beside pairs)) (map (λ (pair : Cell × Cell). pair.0) pairs) z h)

to_field : (rows : List Datum) (s : Option SortBy) (name : List ℕ) (z : Cell) → Has (cells_in name rows) z → Has (cells_of_field rows s name) z
to_field rows None name z h = to_firsts [] (cells_in name rows) z refl h
to_field rows (Some s) name z h =
    let pairs = pairs_in name s.field rows in
    to_ascending (by_beside s.descending (first_beside pairs)) (by_beside_total s.descending (first_beside pairs))
    (beside_exact s.descending (first_beside pairs)) (map (λ (pair : Cell × Cell). pair.0) pairs) z
    (subst (λ l. Has l z) (sym (firsts_in_pairs name s.field rows)) h)

-- ---- the copies by one field

module _ (name : List ℕ) (rows : List Datum) (sort : Option (List SortBy)) where
  abbrev cells_there : List Cell
  cells_there = cells_of_field rows (slice_get (unwrap_or sort []) 0) name

  abbrev divided : Bool → DividedBy
  divided crosses = record { fields = name ∷ []; sort = sort; crosses = crosses }

  cells_apart : Rises Other cells_there
  cells_apart =
      apart_alone cells_there (all_apart (map alone cells_there)
      (subst (AllPairs (λ a b. a ≢ b)) (lone_choices cells_there) (copies_are_different (divided true) rows)))

  sorted_alone : ascending (by_places (cells_there ∷ [])) (map alone (cells_in name rows)) ≡ map alone cells_there
  sorted_alone =
      ascending_is (by_places (cells_there ∷ [])) (by_places_total (cells_there ∷ [])) (by_place_exact cells_there)
      (map alone (cells_in name rows)) (map alone cells_there)
      (keys_rise cells_there cells_there (rise_by_place (place_among cells_there) 0 cells_there cells_apart (place_is cells_there)))
      (λ key h. let (c, is, there) = from_alone (cells_in name rows) key h in
      subst (Has (map alone cells_there)) is (has_alone cells_there c (to_field rows (slice_get (unwrap_or sort []) 0) name c there)))
      (λ key h. let (c, is, there) = from_alone cells_there key h in
      subst (Has (map alone (cells_in name rows))) is (has_alone (cells_in name rows) c (from_field rows (slice_get (unwrap_or sort []) 0) name c there)))

one_field : (name : List ℕ) (rows : List Datum) (sort : Option (List SortBy))
    → cells_of_copies (divided name rows sort false) rows ≡ choices (cells_of_fields (divided name rows sort false) rows)
one_field name rows None =
    ap (firsts is_key) (keys_alone name rows) ∙ firsts_alone [] (cells_in name rows) ∙ sym (lone_choices (cells_there name rows None))
one_field name rows (Some by) =
    ap (ascending (by_places (cells_there name rows (Some by) ∷ []))) (keys_alone name rows) ∙ sorted_alone name rows (Some by)
    ∙ sym (lone_choices (cells_there name rows (Some by)))

abbrev by_these : List FacetField → Option (List SortBy) → DividedBy
by_these fields sort = record {
  fields = map (λ (field : FacetField). field.name) fields;
  sort = sort;
  crosses = option_map_or (λ (a : Cross). unwrap_or a.cross false) (crossing fields) false;
}

all_fields : (fields : List FacetField) (sort : Option (List SortBy)) (rows : List Datum)
    → cells_of_copies (by_these fields sort) rows ≡ choices (cells_of_fields (by_these fields sort) rows)
all_fields [] sort rows = refl
all_fields (field ∷ []) sort rows = one_field field.name rows sort
all_fields (first ∷ second ∷ others) sort rows = refl

pub copies_are_choices : CopiesAreChoices
copies_are_choices names f sort rows = all_fields f.fields (option_map sort_settings sort) rows

-- ---- cells that first appear

all_of_both : (b : Bool) (x : Cell) (xs ys : List Cell) → cond b (xs ++ ys) (x ∷ (xs ++ ys)) ≡ cond b xs (x ∷ xs) ++ ys
all_of_both true x xs ys = refl
all_of_both false x xs ys = refl

firsts_joined : (before xs ys : List Cell)
    → firsts_behind same_cells before (xs ++ ys) ≡ firsts_behind same_cells before xs ++ firsts_behind same_cells (before ++ xs) ys
firsts_joined before [] ys = ap (λ b. firsts_behind same_cells b ys) (sym (append-nil before))
firsts_joined before (x ∷ xs) ys =
    let rest : firsts_behind same_cells (before ++ x ∷ []) (xs ++ ys)
    ≡ firsts_behind same_cells (before ++ x ∷ []) xs ++ firsts_behind same_cells (before ++ x ∷ xs) ys =
    firsts_joined (before ++ x ∷ []) xs ys
    ∙ ap (λ b. firsts_behind same_cells (before ++ x ∷ []) xs ++ firsts_behind same_cells b ys) (append_assoc before (x ∷ []) xs) in
    (λ i. cond (seen before x) (rest i) (x ∷ rest i))
    ∙ all_of_both (seen before x) x (firsts_behind same_cells (before ++ x ∷ []) xs) (firsts_behind same_cells (before ++ x ∷ xs) ys)

none_new : (before ys : List Cell) → All (λ y. seen before y ≡ true) ys → firsts_behind same_cells before ys ≡ []
none_new before [] h = refl
none_new before (y ∷ ys) h =
    ap (λ b. cond b (firsts_behind same_cells (before ++ y ∷ []) ys) (y ∷ firsts_behind same_cells (before ++ y ∷ []) ys))
    (All-head (λ y. seen before y ≡ true) y ys h)
    ∙ none_new (before ++ y ∷ []) ys
    (All-weaker (λ z. seen before z ≡ true) (λ z. seen (before ++ y ∷ []) z ≡ true) (λ z e. any_left (λ b. same_cells b z) before (y ∷ []) e) ys
    (All-tail (λ z. seen before z ≡ true) y ys h))

occurs_seen : (cells : List Cell) (z : Cell) → occurs_in cells z ≡ true → seen cells z ≡ true
occurs_seen [] z e = e
occurs_seen (x ∷ cells) z e =
    or_either (same_cells z x) (occurs_in cells z) e
    (λ here. or_left (same_cells x z) (seen cells z) (subst (λ w. same_cells w z ≡ true) ((same_cells_tell z x).0 here) (same_itself_cell z)))
    (λ later. or_right (same_cells x z) (seen cells z) (occurs_seen cells z later))

pub first_cells_are_these : FirstCellsAreThese
first_cells_are_these copy units name rows h =
    let below = cells_below copy units name in
    ap (firsts same_cells) h.begins ∙ firsts_joined [] below h.behind
    ∙ ap (λ l. firsts same_cells below ++ l)
    (none_new below h.behind (All-weaker (λ z. occurs_in below z ≡ true) (λ z. seen below z ≡ true) (occurs_seen below) h.behind h.no_others))
    ∙ append-nil (firsts same_cells below)

-- ---- cells in a direction

occurs_has : (cells : List Cell) (z : Cell) → occurs_in cells z ≡ true → Has cells z
occurs_has [] z e = absurd (cc)
occurs_has (x ∷ cells) z e =
    or_either (same_cells z x) (occurs_in cells z) e (λ here. inl (sym ((same_cells_tell z x).0 here))) (λ later. inr (occurs_has cells z later))

reverse_first : {X : Type 0} (x : X) (xs : List X) → reverse (x ∷ xs) ≡ reverse xs ++ x ∷ []
reverse_first x xs = reverse-append (x ∷ []) xs

has_reverse : {X : Type 0} (xs : List X) (z : X) → Has xs z → Has (reverse xs) z
has_reverse [] z h = h
has_reverse (x ∷ xs) z h =
    subst (λ l. Has l z) (sym (reverse_first x xs))
    (⊎_elim (λ is. has_right (reverse xs) (x ∷ []) z (inl is)) (λ later. has_left (reverse xs) (x ∷ []) z (has_reverse xs z later)) h)

from_reverse : {X : Type 0} (xs : List X) (z : X) → Has (reverse xs) z → Has xs z
from_reverse [] z h = h
from_reverse (x ∷ xs) z h =
    has_either (reverse xs) (x ∷ []) z (subst (λ l. Has l z) (reverse_first x xs) h) (λ k. inr (from_reverse xs z k))
    (λ k. ⊎_elim (λ is. inl is) (λ none. absurd none) k)

reverse_rises : {X : Type 0} (A : X → X → Type 0) (xs : List X) → Rises A xs → Rises (λ a b. A b a) (reverse xs)
reverse_rises A [] h = tt
reverse_rises A (x ∷ xs) (above, rest) =
    subst (Rises (λ a b. A b a)) (sym (reverse_first x xs))
    (rises_on (λ a b. A b a) (reverse xs) (x ∷ []) (reverse_rises A xs rest) ((λ z none. absurd none), tt)
    (λ a b there last. ⊎_elim (λ is. subst (λ w. A w a) is (above a (from_reverse xs a there))) (λ none. absurd none) last))

module _ (name : List ℕ) where
  beside_itself : (rows : List Datum) (c : Cell) → Has (cells_in name rows) c → first_beside (pairs_in name name rows) c ≡ c
  beside_itself [] c h = absurd h
  beside_itself (row ∷ rows) c h =
      by_cases (same_cells (row.cell name) c)
      (λ e. ap (λ b. beside b) e ∙ (same_cells_tell (row.cell name) c).0 e)
      (λ e. ap (λ b. beside b) e
      ∙ beside_itself rows c (⊎_elim (λ is. never_seen (same_cells (row.cell name) c)
      (subst (λ w. same_cells (row.cell name) w ≡ true) is (same_itself_cell (row.cell name))) e)
      (λ later. later) h))
    where
      beside : Bool → Cell
      beside b = unwrap_or (option_map (λ (pair : Cell × Cell). pair.1)
          (cond b (Some (row.cell name, row.cell name)) (find (λ (pair : Cell × Cell). same_cells pair.0 c) (pairs_in name name rows)))) Null

module _ (copy : Copy) (units : List ℕ) (name : List ℕ) (rows : List Datum) (h : HaveCellsOf copy units name rows) where
  abbrev below : List Cell
  below = cells_below copy units name

  abbrev beside : Cell → Cell
  beside = first_beside (pairs_in name name rows)

  abbrev order : Bool → Cell → Cell → Ordering
  order descending = by_beside descending beside

  here_below : (z : Cell) → Has (cells_in name rows) z → Has below z
  here_below z there =
      has_either below h.behind z (subst (λ l. Has l z) h.begins there) (λ k. k)
      (λ k. occurs_has below z (has_at (λ c. occurs_in below c ≡ true) h.behind z h.no_others k))

  below_here : (z : Cell) → Has below z → Has (cells_in name rows) z
  below_here z there = subst (λ l. Has l z) (sym h.begins) (has_left below h.behind z there)

  is_beside : (z : Cell) → Has below z → beside z ≡ z
  is_beside z there = beside_itself name rows z (below_here z there)

  upwards : (a b : Cell) → Has below a → Has below b → cell_cmp a b ≡ Less → order false a b ≡ Less
  upwards a b p q e = (λ i. ordering_then (cell_cmp (is_beside a p i) (is_beside b q i)) (cell_cmp a b)) ∙ ap (λ r. ordering_then r (cell_cmp a b)) e

  downwards : (a b : Cell) → Has below a → Has below b → cell_cmp b a ≡ Less → order true a b ≡ Less
  downwards a b p q e = (λ i. ordering_then (cell_cmp (is_beside b q i) (is_beside a p i)) (cell_cmp a b)) ∙ ap (λ r. ordering_then r (cell_cmp a b)) e

  from_sorted : (z : Cell) → Has (ascending cell_cmp below) z → Has below z
  from_sorted z there = from_ascending cell_cmp cell_cmp_total only_equal_cells_tie below z there

  to_sorted : (z : Cell) → Has below z → Has (ascending cell_cmp below) z
  to_sorted z there = to_ascending cell_cmp cell_cmp_total only_equal_cells_tie below z there

  sorted_rises : Rises (λ a b. cell_cmp a b ≡ Less) (ascending cell_cmp below)
  sorted_rises = ascending_rises cell_cmp cell_cmp_total only_equal_cells_tie below

  directed : (descending : Bool) → ascending (order descending) (cells_in name rows) ≡ in_direction descending below
  directed false =
      ascending_is (order false) (by_beside_total false beside) (beside_exact false beside) (cells_in name rows) (ascending cell_cmp below)
      (rises_too (λ a b. cell_cmp a b ≡ Less) (λ a b. order false a b ≡ Less) (ascending cell_cmp below)
      (λ a b p q. upwards a b (from_sorted a p) (from_sorted b q)) sorted_rises)
      (λ z there. to_sorted z (here_below z there)) (λ z there. below_here z (from_sorted z there))
  directed true =
      ascending_is (order true) (by_beside_total true beside) (beside_exact true beside) (cells_in name rows) (reverse (ascending cell_cmp below))
      (rises_too (λ a b. cell_cmp b a ≡ Less) (λ a b. order true a b ≡ Less) (reverse (ascending cell_cmp below))
      (λ a b p q. downwards a b (from_sorted a (from_reverse (ascending cell_cmp below) a p)) (from_sorted b (from_reverse (ascending cell_cmp below) b q)))
      (reverse_rises (λ a b. cell_cmp a b ≡ Less) (ascending cell_cmp below) sorted_rises))
      (λ z there. has_reverse (ascending cell_cmp below) z (to_sorted z (here_below z there)))
      (λ z there. below_here z (from_sorted z (from_reverse (ascending cell_cmp below) z there)))

pub directed_cells_are_these : DirectedCellsAreThese
directed_cells_are_these copy units name descending rows h =
    ap (ascending (by_beside descending (first_beside (pairs_in name name rows)))) (firsts_in_pairs name name rows) ∙ directed copy units name rows h descending

-- ---- rows that others cover

first_of_both : {X : Type 0} (a b : X) (xs ys : List X) → a ∷ xs ≡ b ∷ ys → a ≡ b
first_of_both a b xs ys e = cc

others_of : {X : Type 0} (a b : X) (xs ys : List X) → a ∷ xs ≡ b ∷ ys → xs ≡ ys
others_of a b xs ys e = cc

both_cells : (f g : List ℕ → Cell) (outer inner : List (List ℕ)) → map f (outer ++ inner) ≡ map g (outer ++ inner)
    → (map f outer ≡ map g outer) × (map f inner ≡ map g inner)
both_cells f g [] inner e = (refl, e)
both_cells f g (n ∷ outer) inner e =
    let both = both_cells f g outer inner (others_of (f n) (g n) (map f (outer ++ inner)) (map g (outer ++ inner)) e) in
    (ap₂ (λ c cs. c ∷ cs) (first_of_both (f n) (g n) (map f (outer ++ inner)) (map g (outer ++ inner)) e) both.0, both.1)

module _ (outer inner : List (List ℕ)) (key : List Cell) where
  abbrev is_part : Datum → Bool
  is_part row = is_key (key_of outer row) key

  abbrev is_like : List (List ℕ) → Datum → Datum → Bool
  is_like names row other = is_key (key_of names other) (key_of names row)

  covered_there : (by : List Datum) (row : Datum) → is_part row ≡ true → list_any (is_like (outer ++ inner) row) by ≡ true
      → list_any (is_like inner row) (part_of outer key by) ≡ true
  covered_there [] row part e = e
  covered_there (o ∷ by) row part e =
      or_either (is_like (outer ++ inner) row o) (list_any (is_like (outer ++ inner) row) by) e
      (λ here. let both = both_cells o.cell row.cell outer inner (same_are_equal (key_of (outer ++ inner) o) (key_of (outer ++ inner) row) here) in
      ap (λ t. list_any (is_like inner row) (cond t (o ∷ part_of outer key by) (part_of outer key by))) (ap (λ k. is_key k key) both.0 ∙ part)
      ∙ or_left (is_like inner row o) (list_any (is_like inner row) (part_of outer key by))
      (ap (λ k. is_key k (key_of inner row)) both.1 ∙ same_itself (key_of inner row)))
      (λ later. kept (is_part o) (covered_there by row part later))
    where
      kept : (t : Bool) → list_any (is_like inner row) (part_of outer key by) ≡ true
          → list_any (is_like inner row) (cond t (o ∷ part_of outer key by) (part_of outer key by)) ≡ true
      kept true k = or_right (is_like inner row o) (list_any (is_like inner row) (part_of outer key by)) k
      kept false k = k

  parts_covered : (by rows : List Datum) → AreCovered (outer ++ inner) by rows → AreCovered inner (part_of outer key by) (part_of outer key rows)
  parts_covered by [] h = All-nil (λ row. list_any (is_like inner row) (part_of outer key by) ≡ true)
  parts_covered by (row ∷ rows) h =
      by_cases (is_part row)
      (λ e. subst (λ t. AreCovered inner (part_of outer key by) (cond t (row ∷ part_of outer key rows) (part_of outer key rows))) (sym e)
      (All-cons (λ r. list_any (is_like inner r) (part_of outer key by) ≡ true) row (part_of outer key rows)
      (covered_there by row e (All-head (λ r. list_any (is_like (outer ++ inner) r) by ≡ true) row rows h)) (parts_covered by rows rest)))
      (λ e. subst (λ t. AreCovered inner (part_of outer key by) (cond t (row ∷ part_of outer key rows) (part_of outer key rows))) (sym e)
      (parts_covered by rows rest))
    where
      rest : AreCovered (outer ++ inner) by rows
      rest = All-tail (λ r. list_any (λ o. is_key (key_of (outer ++ inner) o) (key_of (outer ++ inner) r)) by ≡ true) row rows h

pub parts_are_covered : PartsAreCovered
parts_are_covered outer inner key by rows h = parts_covered outer inner key by rows h

pub one_cell : (names : List (List ℕ)) (name : List ℕ) (f g : List ℕ → Cell) → is_one_of names name ≡ true → map f names ≡ map g names → f name ≡ g name
one_cell [] name f g e is = absurd (cc)
one_cell (n ∷ names) name f g e is =
    or_either (bytes_eq n name) (is_one_of names name) e
    (λ here. subst (λ w. f w ≡ g w) ((bytes_eq-Decides n name).0 here) (first_of_both (f n) (g n) (map f names) (map g names) is))
    (λ later. one_cell names name f g later (others_of (f n) (g n) (map f names) (map g names) is))

module _ (names : List (List ℕ)) (name : List ℕ) (among : is_one_of names name ≡ true) where
  occurs_there : (by : List Datum) (row : Datum) → list_any (λ o. is_key (key_of names o) (key_of names row)) by ≡ true
      → occurs_in (cells_in name by) (row.cell name) ≡ true
  occurs_there [] row e = e
  occurs_there (o ∷ by) row e =
      or_either (is_key (key_of names o) (key_of names row)) (list_any (λ o. is_key (key_of names o) (key_of names row)) by) e
      (λ here. or_left (same_cells (row.cell name) (o.cell name)) _
      (subst (λ c. same_cells (row.cell name) c ≡ true)
      (sym (one_cell names name o.cell row.cell among (same_are_equal (key_of names o) (key_of names row) here))) (same_itself_cell (row.cell name))))
      (λ later. or_right (same_cells (row.cell name) (o.cell name)) _ (occurs_there by row later))

pub covered_have_cells : CoveredHaveCells
covered_have_cells copy units names name others among h =
    let by = flat_map copy.rows units in
    let cells : cells_in name by ≡ cells_below copy units name = map_joined (λ (row : Datum). row.cell name) copy.rows units in
    record {
      behind = cells_in name others;
      begins = map-append (λ (row : Datum). row.cell name) by others ∙ ap (λ l. l ++ cells_in name others) cells;
      no_others = All-map (λ c. occurs_in (cells_below copy units name) c ≡ true) (λ (row : Datum). row.cell name) others
          (All-weaker (λ row. list_any (λ o. is_key (key_of names o) (key_of names row)) by ≡ true)
          (λ (row : Datum). occurs_in (cells_below copy units name) (row.cell name) ≡ true)
          (λ row e. subst (λ l. occurs_in l (row.cell name) ≡ true) cells (occurs_there names name among by row e)) others h);
    }
