-- What holds of scripts over Vega specifications, whatever they are.
use Rattle.std.specs.Prelude.{◌≡◌, ℕ, List, ◌++◌, take, Result}
use Rattle.chart_io.specs.Outside.{AppendedPrefix}
use Rattle.cell_value.specs.State.{State}
use Rattle.scene_tree.specs.Outcome.{Drawn}
use Rattle.param_flow.specs.declared.command.Command.{Command}
use Rattle.param_flow.specs.declared.reply.Cause.{Cause}
use Rattle.param_flow.specs.declared.reply.Reply.TheVariants.{Refused}
use Rattle.param_flow.specs.Machine.{reply_of, state_after}
use Rattle.param_flow.specs.Script.{IsOutput, lines_of, ended_lines}
use Rattle.param_flow.specs.Semantics.{Semantics}
use Rattle.vega_spec.specs.declared.spec.VgSpec.{VgSpec}
use Rattle.vega_meaning.specs.Charts.{vega_chart_of}
use Rattle.vega_meaning.specs.Semantics.{IsVegaReply, IsVegaOutput}
use Rattle.play_script.specs.declared.errors.PlayError.{PlayError}
use Rattle.play_script.specs.Meaning.{Meaning, IsReplyIn}
use Rattle.play_script.specs.Played.{Sinks, IsPlayed}

-- a command that the direct machine refuses changes nothing: the state after it is the state before it
abbrev pub RefusedCommandsChangeNothing : Type 0
RefusedCommandsChangeNothing =
    (meaning : Semantics) (st : State) (command : Command) (cause : Cause) → reply_of meaning st command ≡ Refused cause
    → state_after meaning st command ≡ st

-- a script has one output from a state, and the same notes and the same state after it
abbrev pub ScriptsHaveOneOutput : Type 0
ScriptsHaveOneOutput =
    (g : VgSpec) (st now later : State) (script out other notes others : List ℕ)
    → IsVegaOutput g st script out notes now → IsVegaOutput g st script other others later
    → (out ≡ other) × (notes ≡ others) × (now ≡ later)

-- a script has an output from a state whose chart is drawn, and the chart of the state after it is drawn too
abbrev pub ScriptsHaveAnOutput : Type 0
ScriptsHaveAnOutput =
    (g : VgSpec) (st : State) (picture script : List ℕ) → vega_chart_of g st ≡ Drawn picture
    → (out notes : List ℕ) × (now : State) × IsVegaOutput g st script out notes now
    × ((later : List ℕ) × (vega_chart_of g now ≡ Drawn later))

-- the output of lines over what an engine means is their output over its specification, which stays
abbrev pub OutputsAreVega : Type 0
OutputsAreVega =
    (meaning now : Meaning) (n : ℕ) (lines : List (List ℕ)) (out notes : List ℕ) → IsOutput IsReplyIn meaning n lines out notes now
    → (now.spec ≡ meaning.spec) × IsOutput (IsVegaReply meaning.spec) meaning.state n lines out notes now.state

-- the output of the first lines begins the output of them all
abbrev pub OutputsBegin : Type 0
OutputsBegin =
    (g : VgSpec) (st mid now : State) (n k : ℕ) (lines : List (List ℕ)) (out part notes part_notes : List ℕ)
    → IsOutput (IsVegaReply g) st n lines out notes now → IsOutput (IsVegaReply g) st n (take k lines) part part_notes mid
    → (rest : List ℕ) × (out ≡ part ++ rest)

-- the lines that ended within a beginning of a script are first lines of it
abbrev pub EndedLinesComeFirst : Type 0
EndedLinesComeFirst = (taken rest : List ℕ) → (k : ℕ) × (ended_lines taken ≡ take k (lines_of (taken ++ rest)))

-- whatever playing answers, what it appended to the output begins the output of the script
abbrev pub PlayedBegins : Type 0
PlayedBegins =
    (meaning now : Meaning) (script taken rest out notes : List ℕ) (later : State) (before after : Sinks)
    (result : Result (Unit {0}) PlayError) → script ≡ taken ++ rest → IsPlayed IsReplyIn script taken meaning now before after result
    → IsVegaOutput meaning.spec meaning.state script out notes later → AppendedPrefix before.held after.held out
