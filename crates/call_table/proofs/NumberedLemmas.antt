-- One row more under the key with a number.
use Rattle.std.proofs.Common.{◌≡◌, ◌+◌, ◌*◌, ◌<◌, ◌≤◌, ℕ, List, [], ◌∷◌, ◌++◌, get_or, eqb, inl, inr, subst, sym}
use Rattle.std.proofs.Common.{ap, ◌∙◌, arith, lit≤}
use Rattle.std.proofs.lemmas.Bool.{eqb-true, eqb-false}
use Rattle.std.proofs.lemmas.List.{length-append, map-append}
use Rattle.std.proofs.lemmas.List.Quantifiers.{all_pairs_push}
use Rattle.std.proofs.lemmas.List.Elements.{All-push, All-weaker}
use Rattle.cell_value.specs.declared.state.Key.{Key}
use Rattle.cell_value.specs.declared.state.Keyed.{Keyed}
use Rattle.cell_value.specs.State.{greatest_id}
use Rattle.plain_rows.specs.Rows.{AreRows, IsBefore, keys_of, most_listed}
use Rattle.plain_groups.proofs.PlaceLemmas.{by_cases}
use Rattle.call_table.specs.Numbered.{AreNumbered, BranchesBelow}

before_next : (a b : Key) → 2 * a.id + a.branch < 2 * b.id + b.branch → b.branch < 2 → IsBefore a b
before_next a b less small =
    by_cases (eqb a.id b.id) (λ e. let same = eqb-true a.id b.id e in inr (same, omega (arith, same, less)))
    (λ e. let apart = eqb-false a.id b.id e in inl (omega (arith, apart, less, small)))

more : (n : ℕ) (keys : List Key) (key : Key) → AreNumbered n keys → 2 * key.id + key.branch ≡ n → key.branch < 2 → AreNumbered (n + 1) (keys ++ key ∷ [])
more n keys key c number small = record {
  rise = all_pairs_push IsBefore keys key c.rise (λ k d within. before_next (get_or keys k d) key (omega (arith, c.below k d within, number)) small);
  below = All-push (λ (k : Key). 2 * k.id + k.branch < n + 1) keys key
      (All-weaker (λ (k : Key). 2 * k.id + k.branch < n) (λ (k : Key). 2 * k.id + k.branch < n + 1) (λ k h. omega (arith, h)) keys c.below)
      (omega (arith, number));
  branches = All-push (λ (k : Key). k.branch < 2) keys key c.branches small;
  count = omega (arith, length-append keys (key ∷ []), c.count);
}

pub one_more : (n : ℕ) (rows new : List Keyed) (keyed : Keyed) → AreNumbered n (keys_of rows) → 2 * keyed.key.id + keyed.key.branch ≡ n
    → keyed.key.branch < 2 → new ≡ rows ++ keyed ∷ [] → AreNumbered (n + 1) (keys_of new)
one_more n rows new keyed c number small e =
    subst (AreNumbered (n + 1)) (sym (ap keys_of e ∙ map-append (λ (k : Keyed). k.key) rows (keyed ∷ []))) (more n (keys_of rows) keyed.key c number small)

pub later : (n m : ℕ) (keys : List Key) → AreNumbered n keys → n ≤ m → AreNumbered m keys
later n m keys c less = record {
  rise = c.rise;
  below = All-weaker (λ (k : Key). 2 * k.id + k.branch < n) (λ (k : Key). 2 * k.id + k.branch < m) (λ k h. omega (arith, h, less)) keys c.below;
  branches = c.branches;
  count = omega (arith, c.count, less);
}

pub numbered_are_rows : (n : ℕ) (rows : List Keyed) → AreNumbered n (keys_of rows) → n ≤ 100002 → AreRows rows
numbered_are_rows n rows c small = record {
  rise = c.rise;
  small_ids =
      let most : 100002 ≤ greatest_id = lit≤ tt in
      All-weaker (λ (k : Key). 2 * k.id + k.branch < n) (λ (k : Key). k.id ≤ greatest_id) (λ k h. omega (arith, h, small, most)) (keys_of rows) c.below;
  few = let most : 100002 ≤ most_listed = lit≤ tt in omega (arith, c.count, small, most);
}

pub branches_of : (n : ℕ) (rows : List Keyed) → AreNumbered n (keys_of rows) → BranchesBelow 2 rows
branches_of n rows c = c.branches
