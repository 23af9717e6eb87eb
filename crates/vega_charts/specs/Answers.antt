-- What drawing answers.
use Rattle.std.specs.Prelude.{◌≡◌, Result, Ok, Err}
use Rattle.scene_tree.specs.Outcome.{Outcome, Drawn, Overflow, Panels}
use Rattle.vega_charts.specs.declared.charts.DrawError.{DrawError}
use Rattle.vega_charts.specs.declared.charts.DrawError.TheVariants as error

-- what was answered is what comes of drawing, unless memory was refused
abbrev pub Comes : {X : Type 0} → Outcome X → Result X DrawError → Type 0
Comes outcome (Ok x) = outcome ≡ Drawn x
Comes outcome (Err error.Overflow) = outcome ≡ Overflow
Comes outcome (Err (error.Panels n)) = outcome ≡ Panels n
Comes outcome (Err error.Memory) = Unit {0}
