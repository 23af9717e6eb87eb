-- Values with their scales in the program.
use Rattle.std.specs.Prelude.{Option, List, map, Result, Ok, Err}
use Rattle.std.specs.Option.{option_map, option_copied}
use Rattle.std.specs.Borrow.{Bor}
use Rattle.expr_eval.specs.declared.error.EvalError.{EvalError}
use Rattle.mark_encode.specs.declared.channels.Scaled.{Scaled}
use Rattle.mark_encode.specs.Channels.{ScaledValue}

-- a value with its scale
abbrev pub scaled_of : Scaled → ScaledValue
scaled_of s = record { value = s.value.now; scale = option_copied s.scale }

-- values with their scales
abbrev pub scaled_all : List Scaled → List ScaledValue
scaled_all = map scaled_of

-- the value that was found
abbrev pub first_of : Result (Option (Bor Scaled)) EvalError → Result (Option ScaledValue) EvalError
first_of (Ok found) = Ok (option_map (λ s. scaled_of s.now) found)
first_of (Err e) = Err e
