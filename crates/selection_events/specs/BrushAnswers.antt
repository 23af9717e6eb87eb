-- What drawing brushes answers.
use Rattle.std.specs.Prelude.{◌≡◌, Option, Some, None, Result, Ok, Err}
use Rattle.selection_events.specs.declared.brushes.BrushError.{BrushError}
use Rattle.selection_events.specs.declared.brushes.BrushError.TheVariants as error

-- What was answered is what is given, or `Overflow` exactly where nothing is, unless memory was refused.
abbrev pub Brushes : {X : Type 0} → Option X → Result X BrushError → Type 0
Brushes given (Ok x) = given ≡ Some x
Brushes given (Err error.Overflow) = given ≡ None
Brushes given (Err error.Memory) = Unit {0}
