-- What axes and legends answer.
use Rattle.std.specs.Prelude.{◌≡◌, Option, Some, None, Result, Ok, Err}
use Rattle.guide_kit.specs.declared.errors.GuideError.{GuideError}
use Rattle.guide_kit.specs.declared.errors.GuideError.TheVariants.{Overflow, Memory}

-- What was answered is what the definition gives: its value, or `Overflow` exactly where it has none, unless memory was refused.
abbrev pub Draws : {X : Type 0} → Result X GuideError → Option X → Type 0
Draws (Ok x) given = given ≡ Some x
Draws (Err Overflow) given = given ≡ None
Draws (Err Memory) given = Unit {0}
