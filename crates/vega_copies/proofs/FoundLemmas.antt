-- Lists of what is found, one after the other.
use Rattle.std.proofs.Common.{◌≡◌, Option, Some, List, [], ◌∷◌, ◌++◌, Result, Ok, Err, IfOk, sym, subst}
use Rattle.expr_eval.specs.Answers.{Evaluates}
use Rattle.expr_eval.specs.declared.error.EvalError.{EvalError}
use Rattle.vega_copies.specs.inner.Counted.{Stops}
use Rattle.vega_copies.specs.inner.Results.{Adds}

module _ {X : Type 0} (found : Result X EvalError) (old new : List X) where
  -- what was added, and what holds of it
  pub added : (P : X → Type 0) (done : Unit {0}) → Adds found (Ok done) old new → IfOk found P → (x : X) × P x × (new ≡ old ++ x ∷ [])
  added P done adds holds = added_of found adds holds
    where
      added_of : (found : Result X EvalError) → Adds found (Ok done) old new → IfOk found P → (x : X) × P x × (new ≡ old ++ x ∷ [])
      added_of (Ok x) adds holds = (x, holds, adds)
      added_of (Err e) adds holds = absurd adds

  pub added_both : (P Q : X → Type 0) (done : Unit {0}) → Adds found (Ok done) old new → IfOk found P → IfOk found Q
      → (x : X) × P x × Q x × (new ≡ old ++ x ∷ [])
  added_both P Q done adds holds other = added_of found adds holds other
    where
      added_of : (found : Result X EvalError) → Adds found (Ok done) old new → IfOk found P → IfOk found Q
          → (x : X) × P x × Q x × (new ≡ old ++ x ∷ [])
      added_of (Ok x) adds holds other = (x, holds, other, adds)
      added_of (Err e) adds holds other = absurd adds

  -- why nothing was
  pub not_added : {Y : Type 0} (o : Option Y) (e : EvalError) → Adds {Y = Unit {0}} found (Err e) old new → Stops found o → Evaluates {X = Y} (Err e) o
  not_added {Y} o e adds stops = stops_of found adds stops
    where
      stops_of : (found : Result X EvalError) → Adds {Y = Unit {0}} found (Err e) old new → Stops found o → Evaluates {X = Y} (Err e) o
      stops_of (Ok x) adds stops = subst (λ e. Evaluates {X = Y} (Err e) o) (sym adds) tt
      stops_of (Err other) adds stops = subst (λ e. Evaluates {X = Y} (Err e) o) (sym adds) stops

-- the value of what was found, and why it wasn't
pub is_value : {X : Type 0} (found : Result X EvalError) (o : Option X) → Evaluates found o → IfOk found (λ x. o ≡ Some x)
is_value (Ok x) o is = is
is_value (Err e) o is = tt

pub is_stopped : {X : Type 0} (found : Result X EvalError) (o : Option X) → Evaluates found o → Stops found o
is_stopped (Ok x) o is = tt
is_stopped (Err e) o is = is
