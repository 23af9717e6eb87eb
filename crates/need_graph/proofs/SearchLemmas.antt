-- The steps of a search for a way back.
use Rattle.std.proofs.Common.{◌≡◌, ◌≢◌, ◌⊎◌, ℕ, zero, suc, ◌+◌, ◌<◌, ◌≤◌, Bool, true, false, List, [], ◌∷◌, ◌++◌, length}
use Rattle.std.proofs.Common.{inl, inr, refl, sym, ap, subst, arith, length-append}
use Rattle.std.specs.Prelude.{replicate, slice_set}
use Rattle.std.proofs.lemmas.Bool.{or_left, or_right, or_cases, eqb-true, eq-eqb, cases_Bool, both_ways}
use Rattle.need_graph.specs.Needs.{Needs, by_itself, through, needs_of, has, needs_itself}
use Rattle.need_graph.specs.inner.Search.{is_seen, count_unseen, Adds, IsPassed, IsSearch}
use Rattle.need_graph.proofs.NeedLemmas.{itself, joined, is_node}

-- A number stands in two lists joined where it stands in one of them.

has_left : (xs ys : List ℕ) (v : ℕ) → has xs v ≡ true → has (xs ++ ys) v ≡ true
has_left [] ys v e = cc
has_left (x ∷ xs) ys v e =
    elim (or_cases _ (has xs v) e) [
      | inl here ↦ or_left _ (has (xs ++ ys) v) here
      | inr there ↦ or_right _ (has (xs ++ ys) v) (has_left xs ys v there)
    ]

has_right : (xs ys : List ℕ) (v : ℕ) → has ys v ≡ true → has (xs ++ ys) v ≡ true
has_right [] ys v e = e
has_right (x ∷ xs) ys v e = or_right _ (has (xs ++ ys) v) (has_right xs ys v e)

has_either : (xs ys : List ℕ) (v : ℕ) → has (xs ++ ys) v ≡ true → (has xs v ≡ true) ⊎ (has ys v ≡ true)
has_either [] ys v e = inr e
has_either (x ∷ xs) ys v e =
    elim (or_cases _ (has (xs ++ ys) v) e) [
      | inl here ↦ inl (or_left _ (has xs v) here)
      | inr there ↦ elim (has_either xs ys v there) [ inl a ↦ inl (or_right _ (has xs v) a) | inr b ↦ inr b ]
    ]

-- a list of one number has that number alone
has_one : (v w : ℕ) → has (v ∷ []) w ≡ true → w ≡ v
has_one v w e = elim (or_cases _ false e) [ inl here ↦ sym (eqb-true v w here) | inr there ↦ cc ]

has_itself : (v : ℕ) → has (v ∷ []) v ≡ true
has_itself v = or_left _ false (eq-eqb v v refl)

-- What is seen.

seen_same : (seen : List Bool) (v : ℕ) → is_seen (slice_set seen v true) v ≡ true
seen_same [] v = refl
seen_same (flag ∷ others) zero = refl
seen_same (flag ∷ others) (suc v) = seen_same others v

seen_still : (seen : List Bool) (v w : ℕ) → is_seen seen w ≡ true → is_seen (slice_set seen v true) w ≡ true
seen_still [] v w e = refl
seen_still (flag ∷ others) zero zero e = refl
seen_still (flag ∷ others) zero (suc w) e = e
seen_still (flag ∷ others) (suc v) zero e = e
seen_still (flag ∷ others) (suc v) (suc w) e = seen_still others v w e

seen_before : (seen : List Bool) (v w : ℕ) → is_seen (slice_set seen v true) w ≡ true → (is_seen seen w ≡ true) ⊎ (w ≡ v)
seen_before [] v w e = inl refl
seen_before (flag ∷ others) zero zero e = inr refl
seen_before (flag ∷ others) zero (suc w) e = inl e
seen_before (flag ∷ others) (suc v) zero e = inl e
seen_before (flag ∷ others) (suc v) (suc w) e =
    elim (seen_before others v w e) [ inl a ↦ inl a | inr b ↦ inr (ap suc b) ]

-- a node that is seen now is one less that wasn't
one_less : (seen : List Bool) (v : ℕ) → is_seen seen v ≡ false → count_unseen (slice_set seen v true) + 1 ≡ count_unseen seen
one_less [] v e = cc
one_less (true ∷ others) zero e = cc
one_less (false ∷ others) zero e = omega arith
one_less (true ∷ others) (suc v) e = one_less others v e
one_less (false ∷ others) (suc v) e =
    let rest : count_unseen (slice_set others v true) + 1 ≡ count_unseen others = one_less others v e in omega arith

-- where no node was seen, a number that counts as seen is no node
unseen_at_first : (count v : ℕ) → is_seen (replicate count false) v ≡ true → count ≤ v
unseen_at_first zero v e = omega arith
unseen_at_first (suc count) zero e = cc
unseen_at_first (suc count) (suc v) e = let rest : count ≤ v = unseen_at_first count v e in omega arith

-- A node that is added.

adds_fresh : (v : ℕ) (seen : List Bool) (waiting : List ℕ) → is_seen seen v ≡ false
    → Adds (v ∷ []) seen waiting (slice_set seen v true) (waiting ++ v ∷ [])
adds_fresh v seen waiting was = record {
  all = λ w e. let at : ℕ → Type 0 = λ t. is_seen (slice_set seen v true) t ≡ true in subst at (sym (has_one v w e)) (seen_same seen v);
  kept = λ w e. seen_still seen v w e;
  wait = λ w e. has_left waiting (v ∷ []) w e;
  seen_from = λ w e. elim (seen_before seen v w e) [
    | inl before ↦ inl before
    | inr same ↦ let at : ℕ → Type 0 = λ t. has (waiting ++ v ∷ []) t ≡ true in
        inr (subst at (sym same) (has_right waiting (v ∷ []) v (has_itself v)))
  ];
  waiting_from = λ w e. has_either waiting (v ∷ []) w e;
  as_many =
      let less : count_unseen (slice_set seen v true) + 1 ≡ count_unseen seen = one_less seen v was in
      let one : length (waiting ++ v ∷ []) ≡ length waiting + length (v ∷ []) = length-append waiting (v ∷ []) in
      omega arith;
}

pub adds_unseen : (v : ℕ) (seen : List Bool) (waiting : List ℕ) (seen' : List Bool) (waiting' : List ℕ) → is_seen seen v ≡ false
    → seen' ≡ slice_set seen v true → waiting' ≡ waiting ++ v ∷ [] → Adds (v ∷ []) seen waiting seen' waiting'
adds_unseen v seen waiting seen' waiting' was flags nodes = rw (flags, nodes) (adds_fresh v seen waiting was)

-- The search.

module _ (needs : List (List ℕ)) (v : ℕ) where
  -- at first v waits
  pub start : IsSearch needs v (replicate (length needs) false) ([] ++ v ∷ [])
  start = record {
    needed = λ u e. inl (has_one v u e);
    passed = λ u or. elim or [
      | inl same ↦ let at : ℕ → Type 0 = λ t. has (v ∷ []) t ≡ true in inl (subst at (sym same) (has_itself v))
      | inr seen ↦
          let past : length needs ≤ u = unseen_at_first (length needs) u seen in
          inr (λ w e. let node : u < length needs = is_node needs u w e in absurd (omega arith))
    ];
  }

  -- a way back is found
  pub found : (seen : List Bool) (all waiting : List ℕ) (u : ℕ) → all ≡ waiting ++ u ∷ [] → IsSearch needs v seen all
      → has (needs_of needs u) v ≡ true → needs_itself needs v ≡ true
  found seen all waiting u is before e =
      let search_ : IsSearch needs v seen (waiting ++ u ∷ []) = subst (λ (t : List ℕ). IsSearch needs v seen t) is before in
      elim (search_.needed u (has_right waiting (u ∷ []) u (has_itself u))) [
        | inl same ↦ let at : ℕ → Type 0 = λ t. has (needs_of needs t) v ≡ true in (itself needs v).1 (by_itself v v (subst at same e))
        | inr way ↦ (itself needs v).1 (joined needs way (by_itself u v e))
      ]

  -- a node of those that wait is passed
  passed_on : (seen : List Bool) (waiting : List ℕ) (u : ℕ) (seen' : List Bool) (waiting' : List ℕ)
      → IsSearch needs v seen (waiting ++ u ∷ []) → has (needs_of needs u) v ≡ false → Adds (needs_of needs u) seen waiting seen' waiting'
      → IsSearch needs v seen' waiting'
  passed_on seen waiting u seen' waiting' before none adds = record {
    needed = λ w e. elim (adds.waiting_from w e) [
      | inl waits ↦ before.needed w (has_left waiting (u ∷ []) w waits)
      | inr new ↦ inr (reached w new)
    ];
    passed = λ w or. elim or [
      | inl same ↦ still w (before.passed w (inl same))
      | inr seen_now ↦ elim (adds.seen_from w seen_now) [
        | inl was ↦ still w (before.passed w (inr was))
        | inr waits ↦ inl waits
      ]
    ];
  }
    where
      reached : (w : ℕ) → has (needs_of needs u) w ≡ true → Needs needs v w
      reached w e = elim (before.needed u (has_right waiting (u ∷ []) u (has_itself u))) [
        | inl same ↦ let at : ℕ → Type 0 = λ t. has (needs_of needs t) w ≡ true in by_itself v w (subst at same e)
        | inr way ↦ joined needs way (by_itself u w e)
      ]

      at_u : IsPassed needs v seen' u
      at_u w e = ((λ same. let at : ℕ → Type 0 = λ t. has (needs_of needs u) t ≡ true in both_ways _ none (subst at same e)), adds.all w e)

      still : (w : ℕ) → (has (waiting ++ u ∷ []) w ≡ true) ⊎ IsPassed needs v seen w → (has waiting' w ≡ true) ⊎ IsPassed needs v seen' w
      still w (inl waits) = elim (has_either waiting (u ∷ []) w waits) [
        | inl among ↦ inl (adds.wait w among)
        | inr one ↦ let at : ℕ → Type 0 = λ t. IsPassed needs v seen' t in inr (subst at (sym (has_one u w one)) at_u)
      ]
      still w (inr passed) = inr (λ t e. ((passed t e).0, adds.kept t (passed t e).1))

  pub step : (seen : List Bool) (all waiting : List ℕ) (u : ℕ) (seen' : List Bool) (waiting' : List ℕ) → all ≡ waiting ++ u ∷ []
      → IsSearch needs v seen all → has (needs_of needs u) v ≡ false → Adds (needs_of needs u) seen waiting seen' waiting'
      → IsSearch needs v seen' waiting'
  step seen all waiting u seen' waiting' is before none adds =
      passed_on seen waiting u seen' waiting' (subst (λ (t : List ℕ). IsSearch needs v seen t) is before) none adds

  -- nothing that v or a number seen needs is v, once nothing waits
  no_way : (seen : List Bool) → IsSearch needs v seen [] → {u w : ℕ} → (u ≡ v) ⊎ (is_seen seen u ≡ true) → Needs needs u w → w ≢ v
  no_way seen at_end or (by_itself u w e) =
      elim (at_end.passed u or) [ inl waits ↦ absurd (both_ways false refl waits) | inr passed ↦ (passed w e).0 ]
  no_way seen at_end or (through u t w e m) =
      elim (at_end.passed u or) [
        | inl waits ↦ absurd (both_ways false refl waits)
        | inr passed ↦ no_way seen at_end (inr (passed t e).1) m
      ]

  -- once nothing waits there is no way back
  pub none_found : (seen : List Bool) (all : List ℕ) → all ≡ [] → IsSearch needs v seen all → needs_itself needs v ≡ false
  none_found seen all is before =
      let at_end : IsSearch needs v seen [] = subst (λ (t : List ℕ). IsSearch needs v seen t) is before in
      elim (cases_Bool (needs_itself needs v)) [
        | inl needing ↦ absurd (no_way seen at_end (inl refl) ((itself needs v).0 needing) refl)
        | inr free ↦ free
      ]
