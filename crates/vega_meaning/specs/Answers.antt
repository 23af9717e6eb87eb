-- What drawing answers.
use Rattle.std.specs.Prelude.{◌≡◌, Result, Ok, Err}
use Rattle.scene_tree.specs.Outcome.{Outcome, Drawn, Overflow, Panels}
use Rattle.vega_meaning.specs.declared.open.OpenError.{OpenError}
use Rattle.vega_meaning.specs.declared.open.OpenError.TheVariants as error

-- what was answered is what comes of drawing, unless memory was refused
abbrev pub Draws : {X : Type 0} → Outcome X → Result X OpenError → Type 0
Draws outcome (Ok x) = outcome ≡ Drawn x
Draws outcome (Err error.Overflow) = outcome ≡ Overflow
Draws outcome (Err (error.Panels n)) = outcome ≡ Panels n
Draws outcome (Err error.Memory) = Unit {0}
