-- Where rows stand in their partitions.
use Rattle.std.proofs.Common.{◌≡◌, ℕ, ◌+◌, ◌<◌, ◌≤◌, ◌⊎◌, inl, inr, suc, Bool, true, false, cond, List, [], ◌∷◌, ◌++◌, map, filter}
use Rattle.std.proofs.Common.{length, take, drop, get_or, eqb, All, arith, refl, sym, ap, ap₂, ◌∙◌}
use Rattle.std.proofs.Common.{subst, take_all, take_at, append_assoc}
use Rattle.std.specs.Ordering.{is_lt, ordering_then}
use Rattle.std.proofs.lemmas.Bool.{eqb-true, eqb-false, cond_both}
use Rattle.std.proofs.lemmas.List.{length-map, length-append, map-append, get_or-map, get_or_default}
use Rattle.std.proofs.lemmas.List.Elements.{All-nil, All-cons, filter-append}
use Rattle.std.proofs.lemmas.List.Sums.{length-filter, count_by-le-length}
use Rattle.std.proofs.Math.Seq.{get_or-append_seam}
use Rattle.cell_value.specs.declared.cell.Cell.{Cell}
use Rattle.cell_value.specs.declared.state.Keyed.{Keyed}
use Rattle.cell_value.specs.Datum.{Datum, datum_of, cell_at}
use Rattle.plain_rows.specs.declared.transforms.SortBy.{SortBy}
use Rattle.plain_rows.specs.Rows.{AreRows}
use Rattle.plain_rows.proofs.Lists.{seen_twice}
use Rattle.plain_groups.specs.Groups.{alike}
use Rattle.plain_groups.specs.inner.Places.{key_cells, same_keys, leader_of, leaders, row_at}
use Rattle.plain_groups.proofs.PlaceLemmas.{by_cases, equal_itself, same_are_equal, same_itself, passes_there, leads, leads_within}
use Rattle.plain_groups.proofs.PlaceLemmas.{alike_keys, halves}
use Rattle.plain_orders.specs.declared.entries.Entry.{Entry}
use Rattle.plain_orders.specs.Orders.{placed, in_order, row_order, cells_of, partition_of, rows_before}
use Rattle.plain_orders.specs.Partitions.{datum_at, data_at, StandsAt, ArePartitions}
use Rattle.plain_orders.specs.inner.Entries.{entry_cmp, entry_of, entries_from}
use Rattle.plain_orders.specs.inner.Ranks.{dealt, IsRanked, AreDealt}
use Rattle.plain_orders.proofs.SortLemmas.{differ}
use Rattle.plain_orders.proofs.OrderLemmas.{Each, each_kept, each_in_order, map_in_order, Climbs, climbs_in_order, before_filtered}
use Rattle.plain_orders.proofs.KeyOrder.{row_order_total, by_place, by_entries, rows_apart, row_there}

abbrev place_of : Entry → ℕ
place_of entry = entry.place

-- a number stands in a list
abbrev Among : ℕ → List ℕ → Type 0
Among p [] = ⊥
Among p (q ∷ qs) = (p ≡ q) ⊎ Among p qs

among_at : (p : ℕ) (qs : List ℕ) → Among p qs → (j : ℕ) × (j < length qs) × (get_or qs j 0 ≡ p)
among_at p [] h = absurd h
among_at p (q ∷ qs) (inl e) = (0, omega arith, sym e)
among_at p (q ∷ qs) (inr h) = let (j, within, is) = among_at p qs h in (suc j, omega (arith, within), is)

among_placed : (p : ℕ) (e : Entry) (es : List Entry) → Among p (map place_of (e ∷ es)) → Among p (map place_of (placed entry_cmp e es))
among_placed p e [] h = h
among_placed p e (k ∷ es) h =
    cond_both (is_lt (entry_cmp k e)) (k ∷ placed entry_cmp e es) (e ∷ k ∷ es) (λ l. Among p (map place_of l))
    (λ _. swap (among_placed p e es) h) (λ _. h)
  where
    swap : (Among p (map place_of (e ∷ es)) → Among p (map place_of (placed entry_cmp e es))) → Among p (map place_of (e ∷ k ∷ es))
        → Among p (map place_of (k ∷ placed entry_cmp e es))
    swap later (inl a) = inr (later (inl a))
    swap later (inr (inl b)) = inl b
    swap later (inr (inr c)) = inr (later (inr c))

among_in_order : (p : ℕ) (es : List Entry) → Among p (map place_of es) → Among p (map place_of (in_order entry_cmp es))
among_in_order p [] h = h
among_in_order p (e ∷ es) (inl a) = among_placed p e (in_order entry_cmp es) (inl a)
among_in_order p (e ∷ es) (inr b) = among_placed p e (in_order entry_cmp es) (inr (among_in_order p es b))

length_placed : (e : Entry) (es : List Entry) → length (placed entry_cmp e es) ≡ length es + 1
length_placed e [] = refl
length_placed e (k ∷ es) =
    cond_both (is_lt (entry_cmp k e)) (k ∷ placed entry_cmp e es) (e ∷ k ∷ es) (λ l. length l ≡ length (k ∷ es) + 1)
    (λ _. omega (arith, length_placed e es)) (λ _. omega arith)

length_in_order : (es : List Entry) → length (in_order entry_cmp es) ≡ length es
length_in_order [] = refl
length_in_order (e ∷ es) = omega (arith, length_placed e (in_order entry_cmp es), length_in_order es)

pub each_all : (P : ℕ → Type 0) (qs : List ℕ) → Each P qs → All P qs
each_all P [] e = All-nil P
each_all P (q ∷ qs) e = All-cons P q qs e.0 (each_all P qs e.1)

each_place : (P : ℕ → Type 0) (entries : List Entry) → Each (λ (e : Entry). P e.place) entries → Each P (map place_of entries)
each_place P [] e = tt
each_place P (entry ∷ entries) e = (e.0, each_place P entries e.1)

each_filter : (P : ℕ → Type 0) (t : ℕ → Bool) (qs : List ℕ) → Each P qs → Each P (filter t qs)
each_filter P t [] e = tt
each_filter P t (q ∷ qs) e = pick (t q) (each_filter P t qs e.1)
  where
    pick : (b : Bool) → Each P (filter t qs) → Each P (cond b (q ∷ filter t qs) (filter t qs))
    pick true h = (e.0, h)
    pick false h = h

-- elements that are told alike pass alike
filter_told : {Y : Type 0} (P : ℕ → Type 0) (t : ℕ → Bool) (u : Y → Bool) (see : ℕ → Y) → ((q : ℕ) → P q → t q ≡ u (see q))
    → (qs : List ℕ) → Each P qs
    → map see (filter t qs) ≡ filter u (map see qs)
filter_told P t u see told [] e = refl
filter_told {Y} P t u see told (q ∷ qs) e = pick (t q) (filter_told P t u see told qs e.1)
    ∙ ap (λ b. cond b (see q ∷ filter u (map see qs)) (filter u (map see qs))) (told q e.0)
  where
    pick : (b : Bool) → map see (filter t qs) ≡ filter u (map see qs)
        → map see (cond b (q ∷ filter t qs) (filter t qs)) ≡ cond b (see q ∷ filter u (map see qs)) (filter u (map see qs))
    pick true h = ap (λ l. see q ∷ l) h
    pick false h = h

module _ (rows : List Keyed) (are : AreRows rows) (groupby : List (List ℕ)) (sort : List SortBy) where
  abbrev n : ℕ
  n = length rows

  abbrev seen : List Datum
  seen = map datum_of rows

  abbrev IsEntry : Entry → Type 0
  IsEntry e = (e.place < n) × (e ≡ entry_of sort e.place (datum_at seen e.place).cell)

  abbrev row_of : Entry → Datum
  row_of e = datum_at seen e.place

  abbrev made : List Entry
  made = entries_from sort 0 rows

  abbrev order : List ℕ
  order = map place_of (in_order entry_cmp made)

  module _ (before : List Keyed) (x : Keyed) (rest : List Keyed) (i : ℕ) (e : rows ≡ before ++ x ∷ rest) (at : i ≡ length before) where
    here_within : i < n
    here_within = omega (arith, ap length e, length-append before (x ∷ rest), at)

    here : datum_at seen i ≡ datum_of x
    here =
        ap₂ datum_at (ap (map datum_of) e ∙ map-append datum_of before (x ∷ rest)) (at ∙ sym (length-map before datum_of))
        ∙ get_or-append_seam (map datum_of before) (datum_of x) (map datum_of rest) _

  next : (before : List Keyed) (x : Keyed) (rest : List Keyed) → rows ≡ before ++ x ∷ rest → rows ≡ (before ++ x ∷ []) ++ rest
  next before x rest e = e ∙ sym (append_assoc before (x ∷ []) rest)

  next_at : (before : List Keyed) (x : Keyed) (i : ℕ) → i ≡ length before → i + 1 ≡ length (before ++ x ∷ [])
  next_at before x i at = omega (arith, at, length-append before (x ∷ []))

  entries_are : (before rest : List Keyed) (i : ℕ) → rows ≡ before ++ rest → i ≡ length before → Each IsEntry (entries_from sort i rest)
  entries_are before [] i e at = tt
  entries_are before (x ∷ rest) i e at = (
    (here_within before x rest i e at, ap (λ (d : Datum). entry_of sort i d.cell) (sym (here before x rest i e at))),
    entries_are (before ++ x ∷ []) rest (i + 1) (next before x rest e) (next_at before x i at),
  )

  entries_show : (before rest : List Keyed) (i : ℕ) → rows ≡ before ++ rest → i ≡ length before
      → map row_of (entries_from sort i rest) ≡ map datum_of rest
  entries_show before [] i e at = refl
  entries_show before (x ∷ rest) i e at =
      ap₂ (λ (d : Datum) ds. d ∷ ds) (here before x rest i e at)
      (entries_show (before ++ x ∷ []) rest (i + 1) (next before x rest e) (next_at before x i at))

  entries_long : (rest : List Keyed) (i : ℕ) → length (entries_from sort i rest) ≡ length rest
  entries_long [] i = refl
  entries_long (x ∷ rest) i = omega (arith, entries_long rest (i + 1))

  entries_among : (rest : List Keyed) (i p : ℕ) → i ≤ p → p < i + length rest → Among p (map place_of (entries_from sort i rest))
  entries_among [] i p low high = absurd (omega (arith, low, high))
  entries_among (x ∷ rest) i p low high =
      by_cases (eqb p i) (λ e. inl (eqb-true p i e))
      (λ e. let apart = eqb-false p i e in inr (entries_among rest (i + 1) p (omega (arith, low, apart)) (omega (arith, high))))

  agree : (a b : Entry) → IsEntry a → IsEntry b → row_order sort (row_of a) (row_of b) ≡ entry_cmp a b
  agree a b h k =
      ap₂ ordering_then (by_entries sort (row_of a) (row_of b) a.place b.place) (by_place rows are a.place b.place h.0 k.0)
      ∙ ap₂ entry_cmp (sym h.1) (sym k.1)

  -- the rows at the places in order are the rows in order
  pub order_shows : data_at seen order ≡ in_order (row_order sort) seen
  order_shows =
      seen_twice (datum_at seen) place_of (in_order entry_cmp made)
      ∙ map_in_order entry_cmp (row_order sort) row_of IsEntry agree made (entries_are [] rows 0 refl refl)
      ∙ ap (in_order (row_order sort)) (entries_show [] rows 0 refl refl)

  pub order_within : Each (λ p. p < n) order
  order_within =
      each_place (λ p. p < n) (in_order entry_cmp made)
      (each_kept IsEntry (λ (e : Entry). e.place < n) (λ e h. h.0) (in_order entry_cmp made)
      (each_in_order entry_cmp IsEntry made (entries_are [] rows 0 refl refl)))

  order_is_long : length order ≡ n
  order_is_long =
      length-map (in_order entry_cmp made) place_of ∙ length_in_order made ∙ entries_long rows 0

  order_climbs : Climbs (row_order sort) (in_order (row_order sort) seen)
  order_climbs = climbs_in_order (row_order_total sort) seen (rows_apart sort rows are.rise)

  order_has : (p : ℕ) → p < n → (j : ℕ) × (j < length order) × (get_or order j 0 ≡ p)
  order_has p below = among_at p order (among_in_order p made (entries_among rows 0 p (omega arith) (omega (arith, below))))

  abbrev f : Keyed → List Cell
  f = key_cells groupby

  abbrev homes : List ℕ
  homes = leaders (map f rows)

  abbrev home : ℕ → ℕ
  home p = get_or homes p 0

  pub homes_are_long : length homes ≡ n
  homes_are_long = length-map (map f rows) (leader_of (map f rows)) ∙ length-map rows f

  module _ (p : ℕ) (below : p < n) where
    abbrev x : Keyed
    x = row_at rows p

    is : x ≡ get_or rows p x
    is = get_or_default rows p _ x below

    home_is : home p ≡ leader_of (map f rows) (f x)
    home_is =
        ap (λ l. get_or l p 0) (seen_twice (leader_of (map f rows)) f rows)
        ∙ get_or-map (λ y. leader_of (map f rows) (f y)) rows p x 0 below ∙ ap (λ y. leader_of (map f rows) (f y)) (sym is)

    home_within : home p < n
    home_within = subst (λ k. k < n) (leads rows p x below is f ∙ sym home_is) (leads_within rows p x below is f)

    key_home : get_or (map f rows) (home p) [] ≡ f x
    key_home =
        same_are_equal (get_or (map f rows) (home p) []) (f x)
        (passes_there (λ other. same_keys other (f x)) 0 (length (map f rows)) (home p) (map f rows) [] (sym home_is ∙ omega arith)
        (omega (arith, length-map rows f, home_within)) (omega arith))

    shown : datum_at seen p ≡ datum_of x
    shown = row_there rows are p x below is

  -- two rows have one home where they are alike
  homes_tell : (p q : ℕ) (below : p < n) (other : q < n)
      → eqb (home q) (home p) ≡ alike cells_of groupby (datum_at seen p) (datum_at seen q)
  homes_tell p q below other =
      by_cases (same_keys (f (x p below)) (f (x q other)))
      (λ same. ap (λ k. eqb k (home p)) (home_is q other
      ∙ ap (leader_of (map f rows)) (sym (same_are_equal (f (x p below)) (f (x q other)) same)) ∙ sym (home_is p below))
      ∙ equal_itself (home p) ∙ sym same ∙ told)
      (λ apart. by_cases (eqb (home q) (home p))
      (λ e. let one : f (x p below) ≡ f (x q other) = sym (key_home p below)
      ∙ ap (λ k. get_or (map f rows) k []) (sym (eqb-true (home q) (home p) e)) ∙ key_home q other in
      differ (same_keys (f (x p below)) (f (x q other))) (ap (same_keys (f (x p below))) (sym one) ∙ same_itself (f (x p below))) apart)
      (λ e. e ∙ sym apart ∙ told))
    where
      told : same_keys (f (x p below)) (f (x q other)) ≡ alike cells_of groupby (datum_at seen p) (datum_at seen q)
      told = alike_keys cell_at groupby (x p below) (x q other) ∙ ap₂ (alike cells_of groupby) (sym (shown p below)) (sym (shown q other))

  -- the places that go to the home of a row are those of its partition
  dealt_shows : (p : ℕ) → p < n → (qs : List ℕ) → Each (λ q. q < n) qs
      → data_at seen (dealt homes qs (home p)) ≡ filter (alike cells_of groupby (datum_at seen p)) (data_at seen qs)
  dealt_shows p below qs within =
      filter_told (λ q. q < n) (λ q. eqb (home q) (home p)) (alike cells_of groupby (datum_at seen p)) (datum_at seen)
      (λ q other. homes_tell p q below other) qs within

  partition_shows : (p : ℕ) → p < n → data_at seen (dealt homes order (home p)) ≡ partition_of groupby sort seen (datum_at seen p)
  partition_shows p below = dealt_shows p below order order_within ∙ ap (filter (alike cells_of groupby (datum_at seen p))) order_shows

  module _ (p : ℕ) (below : p < n) (j : ℕ) (inside : j < length order) (there : get_or order j 0 ≡ p) where
    abbrev front : List ℕ
    front = take j order

    abbrev back : List ℕ
    back = drop (j + 1) order

    parts : order ≡ front ++ p ∷ back
    parts = halves order j p inside (sym there ∙ get_or_default order j 0 p inside)

    list_parts : dealt homes order (home p) ≡ dealt homes front (home p) ++ p ∷ dealt homes back (home p)
    list_parts =
        ap (λ l. dealt homes l (home p)) parts
        ∙ filter-append (λ q. eqb (home q) (home p)) front (p ∷ back)
        ∙ ap (λ b. dealt homes front (home p) ++ cond b (p ∷ dealt homes back (home p)) (dealt homes back (home p))) (equal_itself (home p))

    rows_parts : in_order (row_order sort) seen ≡ data_at seen front ++ datum_at seen p ∷ data_at seen back
    rows_parts = sym order_shows ∙ ap (data_at seen) parts ∙ map-append (datum_at seen) front (p ∷ back)

    front_within : Each (λ q. q < n) front
    front_within = each_front front (p ∷ back) (subst (Each (λ q. q < n)) parts order_within)
      where
        each_front : (qs rs : List ℕ) → Each (λ q. q < n) (qs ++ rs) → Each (λ q. q < n) qs
        each_front [] rs e = tt
        each_front (q ∷ qs) rs e = (e.0, each_front qs rs e.1)

    before_shows : data_at seen (dealt homes front (home p))
        ≡ rows_before sort (partition_of groupby sort seen (datum_at seen p)) (datum_at seen p)
    before_shows =
        dealt_shows p below front front_within
        ∙ sym (ap (λ l. filter (λ y. is_lt (row_order sort y (datum_at seen p)))
        (filter (alike cells_of groupby (datum_at seen p)) l)) rows_parts
        ∙ before_filtered (row_order_total sort) (alike cells_of groupby (datum_at seen p)) (datum_at seen p) (data_at seen front)
        (data_at seen back)
        (subst (Climbs (row_order sort)) rows_parts order_climbs))

    stands_so : (list : List ℕ) (rank : ℕ) → list ≡ dealt homes order (home p) → rank ≡ length (dealt homes front (home p))
        → StandsAt groupby sort seen list rank p
    stands_so list rank told ranked =
        let whole : list ≡ dealt homes front (home p) ++ p ∷ dealt homes back (home p) = told ∙ list_parts in
        record {
          partition = ap (data_at seen) told ∙ partition_shows p below;
          within = omega (arith, ranked, ap length whole, length-append (dealt homes front (home p)) (p ∷ dealt homes back (home p)));
          itself = ap₂ (λ l k. get_or l k 0) whole ranked ∙ get_or-append_seam (dealt homes front (home p)) p (dealt homes back (home p)) 0;
          before = ap (data_at seen) (ap₂ take ranked whole
              ∙ take_at (dealt homes front (home p)) (p ∷ dealt homes back (home p)) (length (dealt homes front (home p))) refl)
              ∙ before_shows;
        }

  -- places that went to their homes in order are partitions
  pub are_partitions : (lists : List (List ℕ)) (ranks : List ℕ) → AreDealt homes order (length order) lists ranks
      → ArePartitions groupby sort seen lists homes ranks
  are_partitions lists ranks deal = record {
    places = λ k within. subst (All (λ p. p < length seen)) (sym (told k (omega (arith, deal.lists_long, within))))
        (subst (λ m. All (λ p. p < m) (dealt homes order k)) (sym wide)
        (each_all (λ p. p < n) (dealt homes order k) (each_filter (λ p. p < n) (λ q. eqb (home q) k) order order_within)));
    few = λ k within. omega (
      arith,
      wide,
      order_is_long,
      ap length (told k (omega (arith, deal.lists_long, within))),
      length-filter (λ q. eqb (home q) k) order,
      count_by-le-length (λ q. eqb (home q) k) order,
    );
    homes_long = homes_are_long ∙ sym wide;
    ranks_long = deal.ranks_long ∙ homes_are_long ∙ sym wide;
    home = λ p below. omega (arith, home_within p (omega (arith, below, wide)), deal.lists_long, homes_are_long);
    stands = λ p below. stands p (omega (arith, below, wide));
  }
    where
      wide : length seen ≡ n
      wide = length-map rows datum_of

      told : (k : ℕ) → k < length homes → get_or lists k [] ≡ dealt homes order k
      told k within = deal.told k within ∙ ap (λ l. dealt homes l k) (take_all (length order) order (omega arith))

      stands : (p : ℕ) → p < n → StandsAt groupby sort seen (get_or lists (home p) []) (get_or ranks p 0) p
      stands p below =
          let (i, inside, there) = order_has p below in
          let (j, within, at, is) = subst (λ q. IsRanked homes order q (get_or ranks q 0)) there (deal.ranked i inside) in
          stands_so p below j within at (get_or lists (home p) []) (get_or ranks p 0)
          (told (home p) (omega (arith, home_within p below, homes_are_long))) is

  places_within : All (λ p. p < length homes) order
  places_within = subst (λ m. All (λ p. p < m) order) (sym homes_are_long) (each_all (λ p. p < n) order order_within)

  -- places in order are those of homes
  pub places_inside : (hs there places : List ℕ) → hs ≡ homes → there ≡ hs → places ≡ order → All (λ p. p < length there) places
  places_inside hs there places e h f =
      subst (All (λ p. p < length there)) (sym f) (subst (λ l. All (λ p. p < length l) order) (sym (h ∙ e)) places_within)

  -- what was dealt by homes and places in order are partitions
  pub partitions_told : (hs there places : List ℕ) (lists : List (List ℕ)) (ranks : List ℕ) → hs ≡ homes → there ≡ hs → places ≡ order
      → AreDealt there places (length places) lists ranks → ArePartitions groupby sort seen lists hs ranks
  partitions_told hs there places lists ranks e h f deal =
      subst (λ l. ArePartitions groupby sort seen lists l ranks) (sym e)
      (are_partitions lists ranks
      (subst (λ l. AreDealt homes l (length l) lists ranks) f (subst (λ l. AreDealt l places (length places) lists ranks) (h ∙ e) deal)))
