-- The opening chart of a file.
use Rattle.std.specs.Prelude.{ℕ, List, Result, Ok, Err}
use Rattle.fixed_num.specs.Steps.{◌>>=◌}
use Rattle.chart_io.specs.Outside.{Files}
use Rattle.cell_value.specs.State.{state_of}
use Rattle.scene_tree.specs.Outcome.{Outcome, Drawn, Overflow, Panels}
use Rattle.vega_meaning.specs.Charts.{vega_chart_of}
use Rattle.chart_opening.specs.declared.refusal.Refusal.{Refusal}
use Rattle.chart_opening.specs.declared.refusal.Refusal.TheVariants as refusal
use Rattle.chart_opening.specs.declared.opened.Opened.{Opened}
use Rattle.chart_opening.specs.Texts.{Reading}
use Rattle.chart_opening.specs.Specs.{opened_by}

-- what is opened, where its chart is drawn
abbrev pub if_chart : {X : Type 0} → Opened → Outcome X → Result Opened Refusal
if_chart opened (Drawn x) = Ok opened
if_chart opened Overflow = Err refusal.Overflow
if_chart opened (Panels n) = Err (refusal.Panels n)

abbrev pub drawn_of : Opened → Result Opened Refusal
drawn_of opened = if_chart opened (vega_chart_of opened.spec (state_of opened.state))

-- the specification in a file with its opening state, whose chart is drawn, or the first cause for which it isn't
abbrev pub drawn_by : Reading → Files → List ℕ → Result Opened Refusal
drawn_by reading files name = opened_by reading files name >>= drawn_of
