-- What an evaluation answers.
use Rattle.std.specs.Prelude.{◌≡◌, Option, Some, None, Result, Ok, Err, ℕ, ◌+◌, ◌≤◌}
use Rattle.expr_eval.specs.declared.error.EvalError.{EvalError}
use Rattle.expr_eval.specs.declared.error.EvalError.TheVariants.{Overflow, Memory}

-- What was answered is what the definition gives: its value, or `Overflow` exactly where it has none, unless memory was refused.
abbrev pub Evaluates : {X : Type 0} → Result X EvalError → Option X → Type 0
Evaluates (Ok x) given = given ≡ Some x
Evaluates (Err Overflow) given = given ≡ None
Evaluates (Err Memory) given = Unit {0}

-- a count never falls, and rises by so much at most
pub record RisesBy (most old new : ℕ) : Type 0 where
  pub never_falls : old ≤ new
  pub bounded : new ≤ old + most
