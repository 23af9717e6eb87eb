-- The causes that the program's functions hand up, as ends of a run. No public clause cites this.
use Rattle.std.specs.Prelude.{◌≡◌, ◌⊎◌, Option, Some, None, Result, Ok, Err}
use Rattle.std.specs.Result.{result_map_both}
use Rattle.text_kit.specs.Answer.{GivesAs}
use Rattle.cell_value.specs.State.{state_of}
use Rattle.play_script.specs.Meaning.{Meaning}
use Rattle.play_script.specs.declared.errors.PlayError.{PlayError}
use Rattle.play_script.specs.declared.errors.PlayError.TheVariants as play
use Rattle.chart_opening.specs.declared.opened.Opened.{Opened}
use Rattle.chart_opening.specs.declared.refusal.Refusal.{Refusal}
use Rattle.chart_opening.specs.declared.refusal.OpenStop.{OpenStop}
use Rattle.chart_opening.specs.declared.refusal.OpenStop.TheVariants as opening
use Rattle.chart_run.specs.declared.stop.RunStop.{RunStop}
use Rattle.chart_run.specs.declared.stop.RunStop.TheVariants as stop
use Rattle.chart_run.specs.Ends.{End, Done, Words, Refused, ReadFault, WriteFault, NoMemory, LongScript}

-- the end that a cause brings
abbrev pub stop_end : RunStop → End
stop_end stop.Words = Words
stop_end (stop.Refused why) = Refused why
stop_end stop.Read = ReadFault
stop_end stop.Write = WriteFault
stop_end stop.Memory = NoMemory
stop_end stop.ScriptSize = LongScript

-- the end of a run, by its cause if it has one
abbrev pub end_of : Option RunStop → End
end_of None = Done
end_of (Some cause) = stop_end cause

-- the end of a run whose line is told; where there is no memory for the line of a refusal, it ends for want of memory
abbrev pub IsTold : Option RunStop → End → Type 0
IsTold (Some (stop.Refused why)) end = (end ≡ Refused why) ⊎ (end ≡ NoMemory)
IsTold cause end = end ≡ end_of cause

-- why a run stops where opening stops so
abbrev pub stop_at : OpenStop → RunStop
stop_at (opening.Refused why) = stop.Refused why
stop_at opening.Read = stop.Read
stop_at opening.Memory = stop.Memory

-- why a run stops where playing stops so
abbrev pub stop_of : PlayError → RunStop
stop_of play.Read = stop.Read
stop_of play.Write = stop.Write
stop_of play.Size = stop.ScriptSize
stop_of play.Memory = stop.Memory

-- what playing answers, as what a run answers
abbrev pub handed : Result (Unit {0}) PlayError → Result (Unit {0}) RunStop
handed (Ok done) = Ok done
handed (Err cause) = Err (stop_of cause)

-- the reading of a script or of files stopped the run, or the script is too long
abbrev pub IsCutOff : Result (Unit {0}) RunStop → Type 0
IsCutOff (Err stop.Read) = Unit {0}
IsCutOff (Err stop.ScriptSize) = Unit {0}
IsCutOff result = ⊥

-- which refusal a cause is, if it is one
abbrev pub refusal_of : RunStop → Option Refusal
refusal_of (stop.Refused why) = Some why
refusal_of cause = None

-- what an engine means of what is opened
abbrev pub meant : Opened → Meaning
meant opened = record { spec = opened.spec; state = state_of opened.state }

-- what opening answers is what is given, unless reading failed or memory was refused
abbrev pub Meets : {X Y : Type 0} → (X → Y) → Result X RunStop → Result Y Refusal → Type 0
Meets view result given = GivesAs view refusal_of result given

-- what is meant of what is given
abbrev pub meant_of : Result Opened Refusal → Result Meaning Refusal
meant_of given = result_map_both meant (λ why. why) given

-- what can stop a run before anything is written
abbrev pub IsOpenStop : RunStop → Type 0
IsOpenStop stop.Words = ⊥
IsOpenStop stop.Write = ⊥
IsOpenStop stop.ScriptSize = ⊥
IsOpenStop cause = Unit {0}

-- what can stop the writing of a text
abbrev pub IsPrintStop : RunStop → Type 0
IsPrintStop stop.Write = Unit {0}
IsPrintStop stop.Memory = Unit {0}
IsPrintStop cause = ⊥

-- what can stop a picture
abbrev pub IsOpenOrPrintStop : RunStop → Type 0
IsOpenOrPrintStop stop.Words = ⊥
IsOpenOrPrintStop stop.ScriptSize = ⊥
IsOpenOrPrintStop cause = Unit {0}
