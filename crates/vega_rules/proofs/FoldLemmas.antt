-- The products that are kept decide as the products do.
use Rattle.std.proofs.Common.{◌≡◌, ℕ, zero, suc, ◌+◌, ◌*◌, ◌<◌, ◌≤◌, Bool, true, false, List, [], ◌∷◌, length, drop, get_or, Option, Some}
use Rattle.std.proofs.Common.{None, cond, refl, sym, ap, ◌∙◌, subst, arith, inl, inr, min}
use Rattle.std.specs.Prelude.{Vec, bytes_eq, nat_lt, unwrap_or, option_and_then}
use Rattle.std.specs.Option.{option_map_or}
use Rattle.std.specs.declared.alloc.Global.{Global}
use Rattle.std.specs.BTreeMap.{BTreeMap}
use Rattle.std.proofs.lemmas.Bool.{cases_lt}
use Rattle.std.proofs.lemmas.Bool.Decides.{nat_tests}
use Rattle.std.proofs.lemmas.List.{drop_more}
use Rattle.std.proofs.Math.Nat.{mul-suc, mul-zero}
use Rattle.std.proofs.lemmas.List.Sums.{fold_more}
use Rattle.spec_schema.specs.declared.spec_error.SpecKind.TheVariants.{Wrong}
use Rattle.vega_parts.specs.declared.part.Part.{Part}
use Rattle.vega_parts.specs.declared.part.Part.TheVariants as part
use Rattle.vega_parts.specs.declared.part.GivenName.{GivenName}
use Rattle.vega_parts.specs.declared.part.UsedName.{UsedName}
use Rattle.vega_rules.specs.declared.fault.PlacedFault.{PlacedFault}
use Rattle.vega_rules.specs.Faults.{fault_if, sooner, earliest}
use Rattle.vega_rules.specs.Folds.{used_by, is_source, is_source_of, source_of, product_of, product_by, begun, folded, passes, folds_after}
use Rattle.vega_rules.specs.Resolved.{resolved_use}
use Rattle.vega_rules.specs.inner.Keyed.{number_at}
use Rattle.vega_rules.specs.inner.Kept.{use_at, kept_product, kept_by, kept_begun, times, kept_after, kept_passes, Tells, known_before}
use Rattle.vega_rules.specs.Places.{parent}
use Rattle.vega_rules.specs.declared.keys.By.TheVariants as by
use Rattle.vega_rules.specs.inner.Index.{is_key, own_source, key_of_source, IsIndex}
use Rattle.vega_rules.proofs.SearchLemmas.{first_held}
use Rattle.vega_rules.proofs.OrderLemmas.{one_more}
use Rattle.vega_rules.proofs.KeyLemmas.{key_test}

-- ---- 9 stands for all that is more than 8

big : (a f : ℕ) → 9 ≤ a → 9 ≤ a * suc f
big a f h = let e : a * suc f ≡ a * f + a = mul-suc a f in omega arith

small_min : (a : ℕ) → a < 9 → min a 9 ≡ a
small_min a h = grind (arith, nat_tests)

big_min : (a : ℕ) → 9 ≤ a → min a 9 ≡ 9
big_min a h = grind (arith, nat_tests)

times_kept : (a f : ℕ) → times (min a 9) f ≡ min (a * f) 9
times_kept a zero = rw (mul-zero, mul-zero) refl
times_kept a (suc f) = elim (cases_lt a 9) [
  | inl l ↦ ap (λ k. min (k * suc f) 9) (small_min a l)
  | inr l ↦ ap (λ k. min (k * suc f) 9) (big_min a l) ∙ big_min (9 * suc f) (big 9 f (omega arith))
      ∙ sym (big_min (a * suc f) (big a f l))
]

passes_kept : (n : ℕ) → nat_lt 8 (min n 9) ≡ nat_lt 8 n
passes_kept n = grind (arith, nat_tests)

-- ---- what is kept

module _ (parts : List Part) (kept : BTreeMap (Vec ℕ Global) ℕ) (known : List (List ℕ × ℕ)) (tells : Tells kept known) where
  by_name : (o : Option GivenName)
      → option_map_or (λ (name : GivenName). kept_product kept name.of) o 1
      ≡ min (option_map_or (λ (name : GivenName). product_of known name.of) o 1) 9
  by_name None = refl
  by_name (Some name) = tells name.of

  by_use : (o : Option UsedName) → option_map_or (kept_by parts kept) o 1 ≡ min (option_map_or (product_by parts known) o 1) 9
  by_use None = refl
  by_use (Some u) = by_name (resolved_use parts u)

  begun_kept : (set : List ℕ) → kept_begun parts kept set ≡ min (begun parts known set) 9
  begun_kept set = by_use (source_of parts set)

  folded_kept : (set : List ℕ) (fields : ℕ) → times (kept_product kept set) fields ≡ min (product_of known set * fields) 9
  folded_kept set fields = ap (λ k. times k fields) (tells set) ∙ times_kept (product_of known set) fields

  one_put : (set : List ℕ) (n m : ℕ) (q : List ℕ) → n ≡ min m 9
      → unwrap_or (cond (bytes_eq q set) (Some n) (number_at kept q)) 1 ≡ min (product_of ((set, m) ∷ known) q) 9
  one_put set n m q h = by_test (bytes_eq q set)
    where
      by_test : (b : Bool) → unwrap_or (cond b (Some n) (number_at kept q)) 1 ≡ min (cond b m (product_of known q)) 9
      by_test true = h
      by_test false = tells q

  after : (p : Part) (q : List ℕ) → unwrap_or (kept_after parts kept p q) 1 ≡ min (product_of (folded parts known p) q) 9
  after (part.Data set) q = one_put set _ _ q (begun_kept set)
  after (part.Fold at set fields) q = one_put set _ _ q (folded_kept set fields)
  after (part.Fault at kind) q = tells q
  after (part.Given g) q = tells q
  after (part.Used u) q = tells q
  after (part.Mark at object own group) q = tells q
  after (part.Plot at) q = tells q
  after (part.Step at set) q = tells q
  after (part.Interval at scope scale names) q = tells q

  pub passes_same : (p : Part) → kept_passes kept p ≡ passes known p
  passes_same (part.Fold at set fields) = ap (λ b. fault_if b Wrong at) (ap (nat_lt 8) (folded_kept set fields)
      ∙ passes_kept (product_of known set * fields))
  passes_same (part.Data set) = refl
  passes_same (part.Fault at kind) = refl
  passes_same (part.Given g) = refl
  passes_same (part.Used u) = refl
  passes_same (part.Mark at object own group) = refl
  passes_same (part.Plot at) = refl
  passes_same (part.Step at set) = refl
  passes_same (part.Interval at scope scale names) = refl

-- nothing is known at first
pub tells_none : (kept : BTreeMap (Vec ℕ Global) ℕ) → ((q : List ℕ) → number_at kept q ≡ None) → Tells kept []
tells_none kept h q = ap (λ o. unwrap_or o 1) (h q)

-- one more part is kept
pub tells_more : (parts : List Part) (old new : BTreeMap (Vec ℕ Global) ℕ) (i : ℕ) (p : Part) → i < length parts → p ≡ get_or parts i p
    → ((q : List ℕ) → number_at new q ≡ kept_after parts old p q) → Tells old (known_before parts i)
    → Tells new (known_before parts (i + 1))
tells_more parts old new i p l is put tells q =
    let known : folded parts (known_before parts i) p ≡ known_before parts (i + 1) =
    ap (folded parts (known_before parts i)) is ∙ sym (fold_more (folded parts) [] parts i p l) in
    ap (λ o. unwrap_or o 1) (put q) ∙ after parts old (known_before parts i) tells p q ∙ ap (λ k. min (product_of k q) 9) known

-- and looked at
pub folds_more : (parts : List Part) (kept : BTreeMap (Vec ℕ Global) ℕ) (i : ℕ) (p : Part) (so_far next whole : Option PlacedFault)
    → i < length parts → p ≡ get_or parts i p
    → Tells kept (known_before parts i) → next ≡ sooner so_far (earliest (kept_passes kept p))
    → sooner so_far (earliest (folds_after parts (known_before parts i) (drop i parts))) ≡ whole
    → sooner next (earliest (folds_after parts (known_before parts (i + 1)) (drop (i + 1) parts))) ≡ whole
folds_more parts kept i p so_far next whole l is tells n h =
    let known : folded parts (known_before parts i) p ≡ known_before parts (i + 1) =
    ap (folded parts (known_before parts i)) is ∙ sym (fold_more (folded parts) [] parts i p l) in
    let split : drop i parts ≡ p ∷ drop (i + 1) parts = drop_more parts i p l ∙ ap (λ (x : Part). x ∷ drop (i + 1) parts) (sym is) in
    let now : next ≡ sooner so_far (earliest (passes (known_before parts i) p)) =
    n ∙ ap (λ fs. sooner so_far (earliest fs)) (passes_same parts kept (known_before parts i) tells p) in
    let step : sooner next (earliest (folds_after parts (folded parts (known_before parts i) p) (drop (i + 1) parts))) ≡ whole =
    one_more so_far next whole (passes (known_before parts i) p) (folds_after parts (folded parts (known_before parts i) p) (drop
    (i + 1) parts)) now
    (ap (λ (ps : List Part). sooner so_far (earliest (folds_after parts (known_before parts i) ps))) (sym split) ∙ h) in
    subst (λ k. sooner next (earliest (folds_after parts k (drop (i + 1) parts))) ≡ whole) known step

-- ---- the source of a data set

source_test : (set : List ℕ) (o : Option UsedName) → is_key set (option_and_then own_source o) ≡ option_map_or (is_source_of set) o false
source_test set None = refl
source_test set (Some u) = key_test set (is_source u.kind) (parent u.at)

pub source_found : (parts : List Part) (sources : BTreeMap (Vec ℕ Global) ℕ) (set : List ℕ) → IsIndex by.Source sources parts
    → use_at parts (number_at sources set) ≡ source_of parts set
source_found parts sources set h =
    first_held used_by (is_source_of set) (λ (p : Part). is_key set (key_of_source p)) (λ p. source_test set (used_by p)) parts
    (number_at sources set) (h.finds set)
