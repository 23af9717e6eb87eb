-- Results of which the value is read.
use Rattle.std.specs.Prelude.{◌≡◌, ◌∷◌, ◌++◌, [], List, Result, Ok, Err}
use Rattle.std.specs.Result.{result_map_both}
use Rattle.expr_eval.specs.declared.error.EvalError.{EvalError}
use Rattle.expr_eval.specs.declared.error.EvalError.TheVariants as error

-- a result with what its value reads as
abbrev pub result_map : {X Y E : Type 0} → (X → Y) → Result X E → Result Y E
result_map f result = result_map_both f (λ e. e) result

-- what was found was added to a list; where it wasn't found its error is handed on, and memory may be refused
abbrev pub Adds : {X Y : Type 0} → Result X EvalError → Result Y EvalError → List X → List X → Type 0
Adds (Ok found) (Ok done) old new = new ≡ old ++ found ∷ []
Adds (Ok found) (Err e) old new = e ≡ error.Memory
Adds (Err e) (Ok done) old new = ⊥
Adds (Err e) (Err other) old new = other ≡ e
