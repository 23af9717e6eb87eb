-- The test that computes says which nodes need themselves.
use Rattle.std.proofs.Common.{◌≡◌, ◌⊎◌, ◌↔◌, ℕ, zero, suc, ◌<◌, ◌≤◌, true, false, List, [], ◌∷◌, length}
use Rattle.std.proofs.Common.{inl, inr, subst, arith}
use Rattle.std.proofs.lemmas.Bool.{or_left, or_right, or_cases, and_from, and_parts, cases_eq, cases_Bool}
use Rattle.need_graph.specs.Needs.{Needs, by_itself, through, needs_of, has, needs_through, needs_itself}

-- what needs something is a node
pub is_node : (needs : List (List ℕ)) (v w : ℕ) → has (needs_of needs v) w ≡ true → v < length needs
is_node [] v w e = cc
is_node (nodes ∷ others) zero w e = omega arith
is_node (nodes ∷ others) (suc v) w e = let below : v < length others = is_node others v w e in omega arith

module _ (needs : List (List ℕ)) where
  -- what one needs is needed through it
  pub joined : {v u w : ℕ} → Needs needs v u → Needs needs u w → Needs needs v w
  joined {w = w} (by_itself v u e) n = through v u w e n
  joined {w = w} (through v t u e m) n = through v t w e (joined m n)

  -- the test is sound
  pub sound : (bound v w : ℕ) → needs_through needs bound v w ≡ true → Needs needs v w
  unfolding needs_through
  sound zero v w e = by_itself v w e
  sound (suc bound) v w e =
      elim (or_cases (needs_through needs bound v w) _ e) [
        | inl lesser ↦ sound bound v w lesser
        | inr both ↦
            let parts = and_parts (needs_through needs bound v bound) (needs_through needs bound bound w) both in
            joined (sound bound v bound parts.0) (sound bound bound w parts.1)
      ]

  -- a way through lesser nodes is one through more
  more : (bound v w : ℕ) → needs_through needs bound v w ≡ true → needs_through needs (suc bound) v w ≡ true
  unfolding needs_through
  more bound v w e = or_left (needs_through needs bound v w) _ e

  -- from one node to another there is a way to the bound, through lesser nodes, and one from there
  abbrev Meets : (bound v w : ℕ) → Type 0
  Meets bound v w = (needs_through needs bound v bound ≡ true) × (needs_through needs bound bound w ≡ true)

  -- two ways that meet at the bound are one
  meets : (bound v w : ℕ) → needs_through needs bound v bound ≡ true → needs_through needs bound bound w ≡ true
      → needs_through needs (suc bound) v w ≡ true
  unfolding needs_through
  meets bound v w e f = or_right (needs_through needs bound v w) _ (and_from (needs_through needs bound v bound) _ e f)

  -- how a way through nodes up to the bound goes
  split : (bound v w : ℕ) → needs_through needs (suc bound) v w ≡ true
      → (needs_through needs bound v w ≡ true) ⊎ Meets bound v w
  unfolding needs_through
  split bound v w e =
      elim (or_cases (needs_through needs bound v w) _ e) [
        | inl lesser ↦ inl lesser
        | inr both ↦ inr (and_parts (needs_through needs bound v bound) (needs_through needs bound bound w) both)
      ]

  -- a way to the bound, or from it, does without the bound
  to_bound : (bound v : ℕ) → needs_through needs (suc bound) v bound ≡ true → needs_through needs bound v bound ≡ true
  to_bound bound v e = elim (split bound v bound e) [ inl lesser ↦ lesser | inr both ↦ both.0 ]

  from_bound : (bound w : ℕ) → needs_through needs (suc bound) bound w ≡ true → needs_through needs bound bound w ≡ true
  from_bound bound w e = elim (split bound bound w e) [ inl lesser ↦ lesser | inr both ↦ both.1 ]

  -- ways that meet at a node below the bound are one, if that is so of ways through lesser nodes
  meet_less : (bound v u w : ℕ)
      → ((a b : ℕ) → needs_through needs bound a u ≡ true → needs_through needs bound u b ≡ true → needs_through needs bound a b ≡ true)
      → needs_through needs (suc bound) v u ≡ true → needs_through needs (suc bound) u w ≡ true
      → needs_through needs (suc bound) v w ≡ true
  meet_less bound v u w lesser e f = ways (split bound v u e) (split bound u w f)
    where
      ways : (needs_through needs bound v u ≡ true) ⊎ Meets bound v u
          → (needs_through needs bound u w ≡ true) ⊎ Meets bound u w
          → needs_through needs (suc bound) v w ≡ true
      ways (inl a) (inl b) = more bound v w (lesser v w a b)
      ways (inl a) (inr b) = meets bound v w (lesser v bound a b.0) b.1
      ways (inr a) (inl b) = meets bound v w a.0 (lesser bound w a.1 b)
      ways (inr a) (inr b) = meets bound v w a.0 b.1

  -- ways that meet at the bound are one
  meet_at : (bound v u w : ℕ) → u ≡ bound → needs_through needs (suc bound) v u ≡ true → needs_through needs (suc bound) u w ≡ true
      → needs_through needs (suc bound) v w ≡ true
  meet_at bound v u w same e f =
      let to : ℕ → Type 0 = λ t. needs_through needs (suc bound) v t ≡ true in
      let from : ℕ → Type 0 = λ t. needs_through needs (suc bound) t w ≡ true in
      meets bound v w (to_bound bound v (subst to same e)) (from_bound bound w (subst from same f))

  -- ways that meet at a node below the bound are one
  meet_below : (bound v u w : ℕ) → u < bound → needs_through needs bound v u ≡ true → needs_through needs bound u w ≡ true
      → needs_through needs bound v w ≡ true
  meet_below zero v u w below e f = absurd (omega arith)
  meet_below (suc bound) v u w below e f =
      elim (cases_eq u bound) [
        | inl same ↦ meet_at bound v u w same e f
        | inr other ↦ meet_less bound v u w (λ a b. meet_below bound a u b (omega arith)) e f
      ]

  -- a need of its own is one through whatever nodes
  at_once : (bound v w : ℕ) → has (needs_of needs v) w ≡ true → needs_through needs bound v w ≡ true
  unfolding needs_through
  at_once zero v w e = e
  at_once (suc bound) v w e = more bound v w (at_once bound v w e)

  -- what needs something is a node
  pub needing : {v w : ℕ} → Needs needs v w → v < length needs
  needing (by_itself v w e) = is_node needs v w e
  needing (through v u w e m) = is_node needs v u e

  -- the test is complete
  pub complete : {v w : ℕ} → Needs needs v w → needs_through needs (length needs) v w ≡ true
  complete (by_itself v w e) = at_once (length needs) v w e
  complete (through v u w e m) =
      meet_below (length needs) v u w (needing m) (at_once (length needs) v u e) (complete m)

-- the test says which nodes need themselves
pub itself : (needs : List (List ℕ)) (v : ℕ) → (needs_itself needs v ≡ true) ↔ Needs needs v v
unfolding needs_itself
itself needs v = (sound needs (length needs) v v, complete needs)

-- what is no node does not need itself
pub no_node : (needs : List (List ℕ)) (v : ℕ) → length needs ≤ v → needs_itself needs v ≡ false
no_node needs v past =
    elim (cases_Bool (needs_itself needs v)) [
      | inl needed ↦ let node : v < length needs = needing needs ((itself needs v).0 needed) in absurd (omega arith)
      | inr free ↦ free
    ]
