-- Where no need leads up, a node all of whose needs lead down does not need itself.
use Rattle.std.proofs.Common.{◌≡◌, ℕ, ◌<◌, ◌≤◌, Bool, true, false, List, [], ◌∷◌, Result, Ok, Err, inl, inr, subst, arith}
use Rattle.std.specs.Prelude.{Some}
use Rattle.std.specs.Prelude.{nat_lt, nat_le, IfOk, slice_get}
use Rattle.std.specs.List.{list_all}
use Rattle.std.proofs.lemmas.Bool.{or_cases, and_parts, eqb-true, ltb-true, leb-true, cases_Bool}
use Rattle.need_graph.specs.Needs.{Needs, by_itself, through, needs_of, has, needs_itself}
use Rattle.need_graph.specs.inner.Levels.{level_of, NeverRises, LeadsDown}
use Rattle.need_graph.proofs.NeedLemmas.{itself}

-- what holds of all holds of one that stands there
all_has : (test : ℕ → Bool) (numbers : List ℕ) (v : ℕ) → list_all test numbers ≡ true → has numbers v ≡ true → test v ≡ true
all_has test [] v all e = cc
all_has test (u ∷ others) v all e =
    let parts = and_parts (test u) (list_all test others) all in
    elim (or_cases _ (has others v) e) [
      | inl here ↦ let at : ℕ → Type 0 = λ t. test t ≡ true in subst at (eqb-true u v here) parts.0
      | inr there ↦ all_has test others v parts.1 there
    ]

module _ (levels : List ℕ) (needs : List (List ℕ)) (never : NeverRises levels needs) where
  -- a need that leads from a node doesn't lead up
  one_within : (v w : ℕ) → has (needs_of needs v) w ≡ true → level_of levels w ≤ level_of levels v
  one_within v w e =
      leb-true (level_of levels w) (level_of levels v)
      (all_has (λ t. nat_le (level_of levels t) (level_of levels v)) (needs_of needs v) w (never v) e)

  -- what a node needs is never above it
  within : {v w : ℕ} → Needs needs v w → level_of levels w ≤ level_of levels v
  within (by_itself v w e) = one_within v w e
  within (through v u w e m) =
      let first : level_of levels u ≤ level_of levels v = one_within v u e in
      let others : level_of levels w ≤ level_of levels u = within m in
      omega arith

  one_below : (v w : ℕ) → LeadsDown levels needs v → has (needs_of needs v) w ≡ true
      → level_of levels w < level_of levels v
  one_below v w down e =
      ltb-true (level_of levels w) (level_of levels v)
      (all_has (λ t. nat_lt (level_of levels t) (level_of levels v)) (needs_of needs v) w down e)

  -- where all needs of a node lead down, what it needs is below it
  below : {v w : ℕ} → LeadsDown levels needs v → Needs needs v w → level_of levels w < level_of levels v
  below down (by_itself v w e) = one_below v w down e
  below down (through v u w e m) =
      let first : level_of levels u < level_of levels v = one_below v u down e in
      let others : level_of levels w ≤ level_of levels u = within m in
      omega arith

  -- so it does not need itself
  pub out : (v : ℕ) → LeadsDown levels needs v → needs_itself needs v ≡ false
  out v down =
      elim (cases_Bool (needs_itself needs v)) [
        | inl needing ↦ let lower : level_of levels v < level_of levels v = below down ((itself needs v).0 needing) in absurd (omega arith)
        | inr free ↦ free
      ]

  pub all_out : {E : Type 0} (flags : Result (List Bool) E)
      → IfOk flags (λ found. (v : ℕ) → slice_get found v ≡ Some true → LeadsDown levels needs v)
      → IfOk flags (λ found. (v : ℕ) → slice_get found v ≡ Some true → needs_itself needs v ≡ false)
  all_out (Ok found) lead = λ v e. out v (lead v e)
  all_out (Err fault) lead = lead
