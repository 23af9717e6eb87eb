-- Signals that have places in an order.
use Rattle.std.proofs.Common.{◌≡◌, ℕ, zero, suc, ◌+◌, ◌<◌, ◌≤◌, Bool, true, false, cond, ◌&&◌, nat_lt, nat_le, max, List, [], ◌∷◌, ◌++◌, flat_map, map, drop, get_or}
use Rattle.std.proofs.Common.{length, All, Option, Some, None, unwrap_or, is_some, refl, sym, ap, ap₂, ◌∙◌, arith}
use Rattle.std.specs.Option.{option_map_or}
use Rattle.std.specs.List.{list_all}
use Rattle.std.specs.Str.{bytes_eq}
use Rattle.std.specs.BTreeMap as tree
use Rattle.std.specs.Ordering.{nat_cmp}
use Rattle.std.specs.Cmp.Lexicographic.{slice_cmp}
use Rattle.std.specs.String.{string_cmp, string_bytes}
use Rattle.std.proofs.lemmas.Map.Text.{btree_map_updates_text}
use Rattle.std.proofs.lemmas.Bool.Decides.{nat_tests}
use Rattle.std.proofs.lemmas.List.{drop_more}
use Rattle.expr_syntax.specs.declared.expr.Expr.{Expr}
use Rattle.expr_reading.specs.Mentions.{parameters_in}
use Rattle.vega_spec.specs.declared.data.DataSet.{DataSet}
use Rattle.vega_spec.specs.declared.signals.Signal.{Signal}
use Rattle.vega_spec.specs.declared.transforms.Extent.{Extent}
use Rattle.vega_spec.specs.declared.transforms.Transform.{Transform}
use Rattle.vega_spec.specs.declared.transforms.Transform.TheVariants as vega
use Rattle.vega_lists.specs.Transforms.{transforms_of}
use Rattle.vega_signals.specs.Extents.{update_of, extent_asked}
use Rattle.vega_signals.specs.Needs.{Need, Reads, no_reads, with_reads, transform_reads, all_reads, begun_reads, extent_needs}
use Rattle.vega_signals.specs.Needs.{set_needs, computed_needs, own_needs, IsPlaced}
use Rattle.vega_signals.specs.inner.Places.{NumbersByName, number_under, Places, with_place, greatest, stands_after, update_stands, computed_stands}
use Rattle.vega_signals.specs.inner.Places.{transform_greatest, extent_stands, read_along, begun_greatest, read_by, sets_stand, all_stand}

under_either : (b : Bool) (number : ℕ) (old : Option ℕ) → unwrap_or (cond b (Some number) old) 0 ≡ cond b number (unwrap_or old 0)
under_either true number old = refl
under_either false number old = refl

-- what an insertion puts
pub number_put : (bytes name : List ℕ) (old new : NumbersByName) (number : ℕ) → bytes ≡ name
    → tree.UpdatesBy string_cmp (λ k. slice_cmp nat_cmp bytes (string_bytes k)) old new (Some number)
    → number_under new ≡ with_place name number (number_under old)
number_put bytes name old new number same h = λ i other. at other i
  where
    at : (other : List ℕ) → number_under new other ≡ with_place name number (number_under old) other
    at other = ap (λ o. unwrap_or o 0) (btree_map_updates_text bytes old new (Some number) h other)
        ∙ under_either (bytes_eq bytes other) number (tree.get_by_text old other)
        ∙ ap (λ n. cond (bytes_eq n other) number (number_under old other)) same

-- where no name has a number
pub no_numbers_yet : (numbers : NumbersByName) → ((name : List ℕ) → tree.get_by_text numbers name ≡ None) → number_under numbers ≡ (λ name. 0)
no_numbers_yet numbers h = λ i name. unwrap_or (h name i) 0

less : (a b : ℕ) → nat_lt a b ≡ true → a < b
less a b e = grind (arith, nat_tests)

at_most : (a b : ℕ) → nat_le a b ≡ true → a ≤ b
at_most a b e = grind (arith, nat_tests)

both_true : (a b : Bool) → (a && b) ≡ true → (a ≡ true) × (b ≡ true)
both_true true b e = (refl, e)
both_true false b e = absurd (cc)

-- a property of each of two lists, and of one more
all_cons : {X : Type 0} (P : X → Type 0) (x : X) (xs : List X) → P x → All P xs → All P (x ∷ xs)
all_cons P x xs h each zero d lt = h
all_cons P x xs h each (suc k) d lt = each k d (omega (arith, lt))

all_both : {X : Type 0} (P : X → Type 0) (xs ys : List X) → All P xs → All P ys → All P (xs ++ ys)
all_both P [] ys h k = k
all_both P (x ∷ xs) ys h k =
    all_cons P x (xs ++ ys) (h 0 x (omega arith)) (all_both P xs ys (λ i d lt. h (suc i) d (omega (arith, lt))) k)

module _ (place : Places) where
  -- what is greater than the greatest place is greater than each
  each_less : (names : List (List ℕ)) (p : ℕ) → greatest place names < p → All (λ name. place name < p) names
  each_less [] p h = λ k d lt. absurd (omega (arith, lt))
  each_less (n ∷ names) p h =
      all_cons (λ name. place name < p) n names (omega (arith, h)) (each_less names p (omega (arith, h)))

  greatest_both : (xs ys : List (List ℕ)) → greatest place (xs ++ ys) ≡ max (greatest place xs) (greatest place ys)
  greatest_both [] ys = omega arith
  greatest_both (x ∷ xs) ys = let rest = greatest_both xs ys in omega (arith, rest)

  -- one more name
  pub greatest_more : {X : Type 0} (f : X → List ℕ) (xs : List X) (i : ℕ) (d : X) (most here next all : ℕ) → i < length xs
      → here ≡ place (f (get_or xs i d)) → next ≡ max most here → max most (greatest place (map f (drop i xs))) ≡ all
      → max next (greatest place (map f (drop (i + 1) xs))) ≡ all
  greatest_more f xs i d most here next all lt is made before =
      let opened : greatest place (map f (drop i xs)) ≡ max (place (f (get_or xs i d))) (greatest place (map f (drop (i + 1) xs))) =
      ap (λ l. greatest place (map f l)) (drop_more xs i d lt) in
      omega (arith, is, made, before, opened)

  module _ (most : ℕ) where
    -- the needs that have places
    abbrev Stand : List Need → Type 0
    Stand = All (IsPlaced place most)

    -- a signal that stands after the greatest place of what it needs is placed
    placed : (name : List ℕ) (needs : List (List ℕ)) (before : ℕ) → greatest place needs ≡ before → stands_after place most name before ≡ true
        → IsPlaced place most (name, needs)
    placed name needs before is e =
        let both = both_true (nat_lt before (place name)) (nat_le (place name) most) e in
        let after : before < place name = less before (place name) both.0 in
        let within : place name ≤ most = at_most (place name) most both.1 in
        record {
          from_one = omega (arith, after);
          bounded = within;
          lesser = each_less needs (place name) (omega (arith, is, after));
        }

    computed_one : (s : Signal) (update : Option Expr) → update_stands place most s update ≡ true
        → Stand (cond (is_some update) ((s.name, option_map_or parameters_in update []) ∷ []) [])
    computed_one s None e = λ k d lt. absurd (omega (arith, lt))
    computed_one s (Some x) e =
        all_cons (IsPlaced place most) (s.name, parameters_in x) []
        (placed s.name (parameters_in x) (greatest place (parameters_in x)) refl e) (λ k d lt. absurd (omega (arith, lt)))

    all_computed : (signals : List Signal) → list_all (computed_stands place most) signals ≡ true → Stand (flat_map computed_needs signals)
    all_computed [] e = λ k d lt. absurd (omega (arith, lt))
    all_computed (s ∷ signals) e =
        let both = both_true (computed_stands place most s) (list_all (computed_stands place most) signals) e in
        all_both (IsPlaced place most) (computed_needs s) (flat_map computed_needs signals) (computed_one s (update_of s) both.0) (all_computed signals both.1)

    module _ (reads : Reads) (lists : Places) (known : (name : List ℕ) → greatest place (reads name) ≡ lists name) where
      transform_known : (t : Transform) → greatest place (transform_reads reads t) ≡ transform_greatest place lists t
      transform_known (vega.Filter f) = refl
      transform_known (vega.Formula f) = refl
      transform_known (vega.Extent e) = refl
      transform_known (vega.Bin b) = refl
      transform_known (vega.TimeUnit t) = refl
      transform_known (vega.Aggregate a) = refl
      transform_known (vega.JoinAggregate a) = refl
      transform_known (vega.Stack s) = refl
      transform_known (vega.Window w) = refl
      transform_known (vega.Lookup l) = known l.from
      transform_known (vega.Fold f) = refl

      extent_one : (names : List (List ℕ)) (before : ℕ) → greatest place names ≡ before → (o : Option Extent)
          → option_map_or (λ (e : Extent). stands_after place most e.signal before) o true ≡ true
          → Stand (option_map_or (λ (e : Extent). (e.signal, names) ∷ []) o [])
      extent_one names before is None h = λ k d lt. absurd (omega (arith, lt))
      extent_one names before is (Some e) h =
          all_cons (IsPlaced place most) (e.signal, names) [] (placed e.signal names before is h) (λ k d lt. absurd (omega (arith, lt)))

      -- the signals of extents among transforms are placed, and the greatest place is known of what they read
      abbrev Along : List Transform → List (List ℕ) → ℕ → Type 0
      Along ts names after = Stand (extent_needs reads ts names) × (greatest place (all_reads reads ts names) ≡ after)

      along_one : (t : Transform) (ts : List Transform) (names : List (List ℕ)) (before after : ℕ) → greatest place names ≡ before
          → (read_along place most lists ts (max before (transform_greatest place lists t)) ≡ Some after → Along ts (names ++ transform_reads reads t) after)
          → (b : Bool) → extent_stands place most before t ≡ b
          → cond b (read_along place most lists ts (max before (transform_greatest place lists t))) None ≡ Some after
          → Along (t ∷ ts) names after
      along_one t ts names before after is rest false stands e = absurd (cc)
      along_one t ts names before after is rest true stands e = (
        all_both (IsPlaced place most) (option_map_or (λ (e : Extent). (e.signal, names) ∷ []) (extent_asked t) []) _
            (extent_one names before is (extent_asked t) stands) (rest e).0,
        (rest e).1,
      )

      along : (ts : List Transform) (names : List (List ℕ)) (before after : ℕ) → greatest place names ≡ before
          → read_along place most lists ts before ≡ Some after → Along ts names after
      along [] names before after is e = ((λ k d lt. absurd (omega (arith, lt))), is ∙ ap (λ o. unwrap_or o before) e)
      along (t ∷ ts) names before after is e =
          along_one t ts names before after is
          (along ts (names ++ transform_reads reads t) (max before (transform_greatest place lists t)) after
          (greatest_both names (transform_reads reads t) ∙ ap₂ max is (transform_known t)))
          (extent_stands place most before t) refl e

      begun_known : (set : DataSet) → greatest place (begun_reads reads set) ≡ begun_greatest lists set
      begun_known set = by_source set.source
        where
          by_source : (o : Option (List ℕ)) → greatest place (option_map_or reads o []) ≡ option_map_or lists o 0
          by_source None = refl
          by_source (Some name) = known name

    with_known : (reads : Reads) (lists : Places) → ((name : List ℕ) → greatest place (reads name) ≡ lists name)
        → (name : List ℕ) (names : List (List ℕ)) (number : ℕ) → greatest place names ≡ number
        → (other : List ℕ) → greatest place (with_reads name names reads other) ≡ with_place name number lists other
    with_known reads lists known name names number is other = by_test (bytes_eq name other)
      where
        by_test : (b : Bool) → greatest place (cond b names (reads other)) ≡ cond b number (lists other)
        by_test true = is
        by_test false = known other

    abbrev reads_by : Reads → DataSet → Reads
    reads_by reads set = with_reads set.name (all_reads reads (transforms_of set) (begun_reads reads set)) reads

    one_set : (reads : Reads) (lists : Places) → ((name : List ℕ) → greatest place (reads name) ≡ lists name) → (set : DataSet) (sets : List DataSet)
        → ((g : ℕ) → ((name : List ℕ) → greatest place (reads_by reads set name) ≡ with_place set.name g lists name)
        → sets_stand place most (with_place set.name g lists) sets ≡ true → Stand (set_needs (reads_by reads set) sets))
        → (o : Option ℕ) → read_by place most lists set ≡ o
        → option_map_or (λ g. sets_stand place most (with_place set.name g lists) sets) o false ≡ true
        → Stand (set_needs reads (set ∷ sets))
    one_set reads lists known set sets rest None is e = absurd (cc)
    one_set reads lists known set sets rest (Some g) is e =
        let names = all_reads reads (transforms_of set) (begun_reads reads set) in
        let found = along reads lists known (transforms_of set) (begun_reads reads set) (begun_greatest lists set) g (begun_known reads lists known set) is in
        all_both (IsPlaced place most) (extent_needs reads (transforms_of set) (begun_reads reads set)) _ found.0
        (rest g (with_known reads lists known set.name names g found.1) e)

    all_sets : (reads : Reads) (lists : Places) → ((name : List ℕ) → greatest place (reads name) ≡ lists name) → (sets : List DataSet)
        → sets_stand place most lists sets ≡ true → Stand (set_needs reads sets)
    all_sets reads lists known [] e = λ k d lt. absurd (omega (arith, lt))
    all_sets reads lists known (set ∷ sets) e =
        one_set reads lists known set sets (λ g known_now. all_sets (reads_by reads set) (with_place set.name g lists) known_now sets)
        (read_by place most lists set) refl e

    -- where the test says so, all have places
    pub all_placed : (signals : List Signal) (sets : List DataSet) (test : Bool) → test ≡ all_stand place most signals sets → test ≡ true
        → Stand (own_needs signals sets)
    all_placed signals sets test is holds =
        let e : all_stand place most signals sets ≡ true = sym is ∙ holds in
        let both = both_true (list_all (computed_stands place most) signals) (sets_stand place most (λ name. 0) sets) e in
        all_both (IsPlaced place most) (flat_map computed_needs signals) (set_needs no_reads sets) (all_computed signals both.0)
        (all_sets no_reads (λ name. 0) (λ name. refl) sets both.1)
