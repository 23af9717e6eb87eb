-- What an engine means: a Vega specification and a state of it, whose chart is drawn.
use Rattle.std.specs.Prelude.{◌≡◌, ℕ, List}
use Rattle.cell_value.specs.State.{State}
use Rattle.scene_tree.specs.Outcome.{Outcome, Drawn}
use Rattle.param_flow.specs.declared.command.Command.{Command}
use Rattle.param_flow.specs.declared.reply.Reply.{Reply}
use Rattle.vega_spec.specs.declared.spec.VgSpec.{VgSpec}
use Rattle.vega_meaning.specs.Charts.{vega_chart_of}
use Rattle.vega_meaning.specs.States.{IsStateOf}
use Rattle.vega_meaning.specs.Semantics.{vega_reply_of, vega_state_after, IsVegaReply}

pub record Meaning : Type 0 where
  pub spec : VgSpec
  pub state : State

-- what comes of drawing its chart
abbrev pub chart_in : Meaning → Outcome (List ℕ)
chart_in meaning = vega_chart_of meaning.spec meaning.state

-- the state is one of the specification, and its chart is drawn
pub record IsStanding (meaning : Meaning) : Type 0 where
  pub of : ∥ IsStateOf meaning.spec meaning.state ∥₁
  pub drawn : (text : List ℕ) × (chart_in meaning ≡ Drawn text)

-- what the direct machine replies to a command other than a print
abbrev pub reply_in : Meaning → Command → Reply
reply_in meaning command = vega_reply_of meaning.spec meaning.state command

-- what is meant after the command
abbrev pub meaning_after : Meaning → Command → Meaning
meaning_after meaning command = record { spec = meaning.spec; state = vega_state_after meaning.spec meaning.state command }

-- what is replied to a line, by its number, and what is meant after it
abbrev pub IsReplyIn : Meaning → ℕ → List ℕ → List ℕ → List ℕ → Meaning → Type 0
IsReplyIn meaning n line reply note now = (now.spec ≡ meaning.spec) × IsVegaReply meaning.spec meaning.state n line reply note now.state
