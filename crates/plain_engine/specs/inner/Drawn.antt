-- What is drawn.
use Rattle.std.specs.Prelude.{◌≡◌, ℕ, List, Result, Ok, Err}
use Rattle.cell_value.specs.declared.cell.Cell.{Cell}
use Rattle.cell_value.specs.State.{Dataset}
use Rattle.expr_eval.specs.Values.{Values}
use Rattle.expr_eval.specs.declared.error.EvalError.{EvalError}
use Rattle.expr_eval.specs.declared.error.EvalError.TheVariants as eval
use Rattle.scene_tree.specs.Outcome.{Outcome, Drawn, Overflow}
use Rattle.plot_scenes.specs.declared.scenes.Drawing.{Drawing}
use Rattle.vega_spec.specs.declared.spec.VgSpec.{VgSpec}
use Rattle.vega_charts.specs.Charts.{drawing_of}

-- something is drawn over these sources and values, where selections hold what is read of their stores
abbrev pub IsDrawnOver : VgSpec → Values → List (List ℕ × Cell) → List Dataset → Type 0
IsDrawnOver g stores params sources = (drawing : Drawing) × (drawing_of g stores params sources ≡ Drawn drawing)

-- what stops where something is out of range stops only where nothing is drawn
abbrev pub StopsDrawing : {X : Type 0} → Result X EvalError → Outcome Drawing → Type 0
StopsDrawing (Ok x) o = Unit {0}
StopsDrawing (Err eval.Overflow) o = o ≡ Overflow
StopsDrawing (Err eval.Memory) o = Unit {0}
