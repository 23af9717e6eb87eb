-- Why steps stop. No public clause cites this.
use Rattle.std.specs.Prelude.{Option, Some, None, Result}
use Rattle.text_kit.specs.Answer.{GivesAs}
use Rattle.chart_opening.specs.declared.refusal.Refusal.{Refusal}
use Rattle.chart_opening.specs.declared.refusal.StepStop.{StepStop}
use Rattle.chart_opening.specs.declared.refusal.StepStop.TheVariants as stop
use Rattle.chart_opening.specs.declared.refusal.OpenStop.{OpenStop}
use Rattle.chart_opening.specs.declared.refusal.OpenStop.TheVariants as outer

-- nothing is opened where a step stops
abbrev pub open_stop : StepStop → OpenStop
open_stop (stop.Refused why) = outer.Refused why
open_stop stop.Memory = outer.Memory

-- the refusal for which a step stops; none where memory was refused
abbrev pub refusal_of : StepStop → Option Refusal
refusal_of (stop.Refused why) = Some why
refusal_of stop.Memory = None

-- what a step that reads no file answers is what is given, unless memory was refused
abbrev pub Gives : {X : Type 0} → Result X StepStop → Result X Refusal → Type 0
Gives = GivesAs (λ x. x) refusal_of
