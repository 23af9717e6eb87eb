-- A place in entries whose keys strictly rise, what an edit there does, and what the map of the entries has.
use Rattle.std.proofs.Common.{◌≡◌, ℕ, zero, suc, ◌+◌, ◌<◌, T, Bool, true, false, ◌&&◌, List, [], ◌∷◌, length, get_or, set, cond, Some, None}
use Rattle.std.proofs.Common.{Result, Ok, Err, IfOk, IfErr, refl, sym, ap, subst, ◌∙◌, arith}
use Rattle.std.specs.List.{insert}
use Rattle.std.specs.List.Sorted.{IsNonDecreasingBy, IsSearchInRange, IsBinarySearchResult}
use Rattle.std.specs.declared.cmp.Ordering.{Ordering}
use Rattle.std.specs.declared.cmp.Ordering.TheVariants.{Less, Equal, Greater}
use Rattle.std.specs.Ordering.{is_lt, is_eq, ordering_index, ordering_reverse}
use Rattle.std.specs.Cmp.{IsTotalOrder, tied_back, alike_right}
use Rattle.std.specs.FinMap.{FinMap, IsAntisymmetric, is_sorted, put, find, from_sorted, entries, get, same_entries_map}
use Rattle.std.specs.FinMap.{entries-from_sorted, get-from_sorted, len-entries, empty_of_len, entries-insert}
use Rattle.std.specs.FinMap as map
use Rattle.std.specs.FinMap.Entries.{below_all, by_order, is_sorted-put}
use Rattle.std.proofs.lemmas.List.Sorted.{searchable_from_sorted}
use Rattle.cell_value.specs.inner.Place.{IsAt, IsGap}

both : (a b : Bool) → T (a && b) → T a × T b
both true b h = (tt, h)
both false b h = absurd h

less : (r : Ordering) → T (is_lt r) → r ≡ Less
less Less h = refl
less Equal h = absurd h
less Greater h = absurd h

module _ {K : Type 0} {R : K → K → Ordering} (o : IsTotalOrder R) where
  after_less : (x y : K) → R x y ≡ Less → R y x ≡ Greater
  after_less x y p = o.antisymm y x ∙ ap ordering_reverse p

  before_greater : (x y : K) → R x y ≡ Greater → R y x ≡ Less
  before_greater x y p = o.antisymm y x ∙ ap ordering_reverse p

module _ {K X : Type 0} {R : K → K → Ordering} (o : IsTotalOrder R) where
  below_at : (x : K) (es : List (K × X)) → T (below_all R x es) → (i : ℕ) (d : K × X) → i < length es → R x (get_or es i d).0 ≡ Less
  below_at x [] h i d l = absurd (omega arith)
  below_at x (e ∷ es) h zero d l = less _ (both _ _ h).0
  below_at x (e ∷ es) h (suc i) d l = below_at x es (both _ _ h).1 i d (omega arith)

  rises : (es : List (K × X)) → T (is_sorted R es) → (i j : ℕ) (d : K × X) → i < j → j < length es
      → R (get_or es i d).0 (get_or es j d).0 ≡ Less
  rises [] h i j d l m = absurd (omega arith)
  rises (e ∷ es) h i zero d l m = absurd (omega arith)
  rises (e ∷ es) h zero (suc j) d l m = below_at e.0 es (both _ _ h).0 j d (omega arith)
  rises (e ∷ es) h (suc i) (suc j) d l m = rises es (both _ _ h).1 i j d (omega arith) (omega arith)

  -- the comparisons with a key rise along the entries, as a binary search asks
  comparisons_rise : (es : List (K × X)) → T (is_sorted R es) → (k : K) → IsNonDecreasingBy (λ e. ordering_index (R e.0 k)) es
  comparisons_rise es h k = searchable_from_sorted o (λ (e : K × X). e.0) es k
      (λ i d _ l. ap is_lt (after_less o _ _ (rises es h i (i + 1) d (omega arith) l)))

  -- what a binary search for a key ends at
  pub searched : (es : List (K × X)) → T (is_sorted R es) → (k : K) (r : Result ℕ ℕ) → IsSearchInRange r (length es)
      → IsBinarySearchResult (λ e. R e.0 k) es r → IfOk r (IsAt R es k) × IfErr r (IsGap R es k)
  searched es h k (Ok at) bound found = ((bound, found), tt)
  searched es h k (Err at) bound parted =
      let parts = parted (comparisons_rise es h k) in
      (tt, (bound, parts.0, parts.1))

  before_place : (e : K × X) (es : List (K × X)) (k : K) (at : ℕ) → T (is_sorted R (e ∷ es)) → IsAt R es k at → R k e.0 ≡ Greater
  before_place e es k at h is_at =
      after_less o e.0 k (sym (alike_right o _ k e.0 (is_at.1 e)) ∙ below_at e.0 es (both _ _ h).0 at e is_at.0)

  tail_at : (e : K × X) (es : List (K × X)) (k : K) (at : ℕ) → IsAt R (e ∷ es) k (suc at) → IsAt R es k at
  tail_at e es k at is_at = (omega (arith, is_at.0), is_at.1)

  pub find_at : (es : List (K × X)) (k : K) (at : ℕ) → T (is_sorted R es) → IsAt R es k at → (d : K × X)
      → find R k es ≡ Some (get_or es at d).1
  find_at [] k at h is_at d = absurd (omega (arith, is_at.0))
  find_at (e ∷ es) k zero h is_at d = ap (λ r. cond (is_eq r) (Some e.1) (find R k es)) (tied_back o e.0 k (is_at.1 d))
  find_at (e ∷ es) k (suc at) h is_at d =
      ap (λ r. cond (is_eq r) (Some e.1) (find R k es)) (before_place e es k at h (tail_at e es k at is_at))
      ∙ find_at es k at (both _ _ h).1 (tail_at e es k at is_at) d

  pub put_at : IsAntisymmetric R → (es : List (K × X)) (k : K) (v : X) (at : ℕ) → T (is_sorted R es) → IsAt R es k at
      → set es at (k, v) ≡ put R k v es
  put_at exact [] k v at h is_at = absurd (omega (arith, is_at.0))
  put_at exact (e ∷ es) k v zero h is_at =
      ap (λ (q : K). (q, v) ∷ es) (sym (exact e.0 k (is_at.1 e)))
      ∙ ap (λ r. by_order r ((k, v) ∷ e ∷ es) ((e.0, v) ∷ es) (e ∷ put R k v es)) (sym (tied_back o e.0 k (is_at.1 e)))
  put_at exact (e ∷ es) k v (suc at) h is_at =
      let further = tail_at e es k at is_at in
      ap (λ l. e ∷ l) (put_at exact es k v at (both _ _ h).1 further)
      ∙ ap (λ r. by_order r ((k, v) ∷ e ∷ es) ((e.0, v) ∷ es) (e ∷ put R k v es)) (sym (before_place e es k at h further))

  tail_gap : (e : K × X) (es : List (K × X)) (k : K) (at : ℕ) → IsGap R (e ∷ es) k (suc at) → IsGap R es k at
  tail_gap e es k at gap = (
    omega (arith, gap.0),
    (λ i d z l. gap.1 (suc i) d (omega arith) (omega arith)),
    (λ i d l m. gap.2 (suc i) d (omega arith) (omega arith)),
  )

  pub find_gap : (es : List (K × X)) (k : K) (at : ℕ) → IsGap R es k at → find R k es ≡ None
  find_gap [] k at gap = refl
  find_gap (e ∷ es) k zero gap =
      ap (λ r. cond (is_eq r) (Some e.1) (find R k es)) (before_greater o e.0 k (gap.2 0 e (omega arith) (omega arith)))
      ∙ find_gap es k zero ((omega arith), (λ i d z l. absurd (omega arith)), (λ i d l m. gap.2 (suc i) d (omega arith) (omega arith)))
  find_gap (e ∷ es) k (suc at) gap =
      ap (λ r. cond (is_eq r) (Some e.1) (find R k es)) (after_less o e.0 k (gap.1 0 e (omega arith) (omega arith)))
      ∙ find_gap es k at (tail_gap e es k at gap)

  pub put_gap : (es : List (K × X)) (k : K) (v : X) (at : ℕ) → IsGap R es k at → insert es at (k, v) ≡ put R k v es
  put_gap [] k v zero gap = refl
  put_gap [] k v (suc at) gap = absurd (omega (arith, gap.0))
  put_gap (e ∷ es) k v zero gap =
      ap (λ r. by_order r ((k, v) ∷ e ∷ es) ((e.0, v) ∷ es) (e ∷ put R k v es))
      (sym (before_greater o e.0 k (gap.2 0 e (omega arith) (omega arith))))
  put_gap (e ∷ es) k v (suc at) gap =
      ap (λ l. e ∷ l) (put_gap es k v at (tail_gap e es k at gap))
      ∙ ap (λ r. by_order r ((k, v) ∷ e ∷ es) ((e.0, v) ∷ es) (e ∷ put R k v es))
      (sym (after_less o e.0 k (gap.1 0 e (omega arith) (omega arith))))

  -- entries that are the old ones with one put in are those of the map with the key inserted
  pub from_put : (es fs : List (K × X)) (k : K) (v : X) → T (is_sorted R es) → fs ≡ put R k v es
      → T (is_sorted R fs) × (from_sorted {R = R} fs ≡ map.insert (from_sorted es) k v)
  from_put es fs k v h e =
      let sorted = subst (λ l. T (is_sorted R l)) (sym e) (is_sorted-put R o k v es h) in (
        sorted,
        same_entries_map _ _ (entries-from_sorted R fs sorted ∙ e
            ∙ sym (entries-insert o (from_sorted es) k v ∙ ap (put R k v) (entries-from_sorted R es h))),
      )

module _ {K X : Type 0} (R : K → K → Ordering) (es : List (K × X)) (h : T (is_sorted R es)) (m : FinMap R X)
    (seen : from_sorted es ≡ m) where
  pub entries_seen : es ≡ entries m
  entries_seen = sym (entries-from_sorted R es h) ∙ ap entries seen

  pub len_seen : length es ≡ map.len m
  len_seen = ap length entries_seen ∙ sym (len-entries m)

  pub get_seen : (q : K) → get m q ≡ find R q es
  get_seen q = ap (λ n. get n q) (sym seen) ∙ get-from_sorted R es q h

pub none_seen : {K X : Type 0} (R : K → K → Ordering) → from_sorted {X = X} {R = R} [] ≡ map.empty
none_seen R = empty_of_len _ (len-entries _ ∙ ap length (entries-from_sorted R [] tt))
