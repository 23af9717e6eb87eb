-- One transform after the other.
use Rattle.std.proofs.Common.{◌≡◌, ℕ, zero, suc, ◌+◌, ◌-◌, ◌*◌, ◌<◌, ◌≤◌, Bool, IsTrue, List, [], ◌∷◌, take, drop, map, length, get_or}
use Rattle.std.proofs.Common.{Option, Some, Err, sym, ap, ◌∙◌, subst, arith}
use Rattle.std.proofs.Math.Seq.{take-length}
use Rattle.std.proofs.lemmas.List.{drop_more}
use Rattle.fixed_num.specs.Ranges.{◌>>=◌}
use Rattle.cell_value.specs.declared.state.Keyed.{Keyed}
use Rattle.cell_value.specs.Datum.{Datum, datum_of}
use Rattle.expr_eval.specs.declared.error.EvalError.{EvalError}
use Rattle.expr_eval.specs.declared.error.EvalError.TheVariants.{Overflow, Memory}
use Rattle.expr_eval.specs.Values.{Values}
use Rattle.plain_rows.specs.Rows.{AreRows}
use Rattle.plain_rows.specs.Answers.{GivesRows}
use Rattle.vega_spec.specs.declared.transforms.Transform.{Transform}
use Rattle.vega_lists.specs.Scopes.{Scope}
use Rattle.vega_lists.specs.Transforms.{transformed, all_transformed, AllTransforms}
use Rattle.vega_lists.specs.Products.{KeysFit, fold_length}
use Rattle.vega_lists.specs.Held.{MayFold}
use Rattle.vega_lists.proofs.KeyLemmas.{data_keys, keys_seen, transformed_fits}

-- the element at a place passes
pub passes_at : (test : Transform → Bool) (ts : List Transform) (i : ℕ) (t : Transform)
    → AllTransforms test ts → i < length ts → t ≡ get_or ts i t → IsTrue (test t)
passes_at test ts i t all lt at = subst (λ x. IsTrue (test x)) (sym at) (all i t lt)

pub first_may_fold : (rows : List Keyed) (t : Transform) (ts : List Transform) → MayFold rows (t ∷ ts) → MayFold rows (t ∷ [])
first_may_fold rows t ts (n, fits, small) = (n, fits, λ k d lt. at_first k d lt (small 0 d (omega arith)))
  where
    at_first : (k : ℕ) (d : ℕ) → k < 1 → n * fold_length t ≤ 8 → get_or (n * fold_length t ∷ []) k d ≤ 8
    at_first zero d lt h = h
    at_first (suc k) d lt h = absurd (omega arith)

pub others_may_fold : (values : Values) (scope : Scope) (rows made : List Keyed) (t : Transform) (ts : List Transform) → MayFold rows (t ∷ ts)
    → transformed values scope t (map datum_of rows) ≡ Some (map datum_of made) → MayFold made ts
others_may_fold values scope rows made t ts (n, fits, small) e =
    let before : KeysFit n (data_keys (map datum_of rows)) = subst (KeysFit n) (sym (keys_seen rows)) fits in
    let after = transformed_fits values scope t (map datum_of rows) (map datum_of made) n e before in
    (n * fold_length t, subst (KeysFit (n * fold_length t)) (keys_seen made) after, λ k d lt. small (suc k) d (omega arith))

-- the rows that were made so far, and what they give with the transforms that are left
pub record IsOnTheWay (values : Values) (scope : Scope) (whole : Option (List Datum)) (left : List Transform) (made : List Keyed) : Type 0 where
  pub gives : all_transformed values scope left (map datum_of made) ≡ whole
  pub are : AreRows made
  pub folds : MayFold made left

module _ (values : Values) (scope : Scope) (whole : Option (List Datum)) where
  -- a transform more
  pub one_more : (left : List Transform) (t : Transform) (made next : List Keyed) → IsOnTheWay values scope whole (t ∷ left) made
      → transformed values scope t (map datum_of made) ≡ Some (map datum_of next) → AreRows next → IsOnTheWay values scope whole left next
  one_more left t made next way e are = record {
    gives = sym (ap (λ o. o >>= all_transformed values scope left) e) ∙ way.gives;
    are = are;
    folds = others_may_fold values scope made next t left way.folds e;
  }

  -- a transform that gives nothing
  pub stops : (left : List Transform) (t : Transform) (made : List Keyed) (error : EvalError) → IsOnTheWay values scope whole (t ∷ left) made
      → GivesRows (Err error) (transformed values scope t (map datum_of made)) → GivesRows (Err error) whole
  stops left t made Overflow way e = sym way.gives ∙ ap (λ o. o >>= all_transformed values scope left) e
  stops left t made Memory way e = tt

  -- what is left at a place
  pub at_place : (ts : List Transform) (i : ℕ) (t : Transform) (made : List Keyed) → i < length ts → t ≡ get_or ts i t
      → IsOnTheWay values scope whole (drop i ts) made → IsOnTheWay values scope whole (t ∷ drop (i + 1) ts) made
  at_place ts i t made lt at way =
      subst (λ left. IsOnTheWay values scope whole left made) (drop_more ts i t lt ∙ ap (λ x. x ∷ drop (i + 1) ts) (sym at)) way

  pub first_at : (ts : List Transform) (i : ℕ) (t : Transform) (made : List Keyed) → i < length ts → t ≡ get_or ts i t
      → IsOnTheWay values scope whole (drop i ts) made → MayFold made (t ∷ [])
  first_at ts i t made lt at way = first_may_fold made t (drop (i + 1) ts) (at_place ts i t made lt at way).folds

  pub more_at : (ts : List Transform) (i : ℕ) (t : Transform) (made next : List Keyed) → i < length ts → t ≡ get_or ts i t
      → IsOnTheWay values scope whole (drop i ts) made → transformed values scope t (map datum_of made) ≡ Some (map datum_of next) → AreRows next
      → IsOnTheWay values scope whole (drop (i + 1) ts) next
  more_at ts i t made next lt at way = one_more (drop (i + 1) ts) t made next (at_place ts i t made lt at way)

-- after the first transform the others may fold
pub rest_may_fold : (values : Values) (scope : Scope) (rows made : List Keyed) (first : Transform) (ts : List Transform)
    → MayFold rows ts → 1 ≤ length ts → first ≡ get_or ts 0 first
    → transformed values scope first (map datum_of rows) ≡ Some (map datum_of made) → MayFold made (take (length ts - 1) (drop 1 ts))
rest_may_fold values scope rows made first [] folds some at e = absurd (omega arith)
rest_may_fold values scope rows made first (t ∷ ts) folds some at e =
    let one : suc (length ts) - 1 ≡ length ts = omega arith in
    subst (MayFold made) (sym (ap (λ n. take n ts) one ∙ take-length ts))
    (others_may_fold values scope rows made t ts folds (ap (λ x. transformed values scope x (map datum_of rows)) (sym at) ∙ e))
