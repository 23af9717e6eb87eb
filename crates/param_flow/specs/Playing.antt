-- Scripts of commands: what is replied to a line.
use Rattle.std.specs.Prelude.{◌≡◌, ◌≢◌, ℕ, List, [], ◌++◌, codes}
use Rattle.std.specs.Fmt.{decimal}
use Rattle.json_exact.specs.Writing.{quoted}
use Rattle.cell_value.specs.State.{State}
use Rattle.scene_tree.specs.Outcome.{Drawn}
use Rattle.param_flow.specs.declared.command.Command.{Command}
use Rattle.param_flow.specs.declared.command.Command.TheVariants.{Print}
use Rattle.param_flow.specs.declared.reply.Reply.{Reply}
use Rattle.param_flow.specs.declared.reply.Reply.TheVariants.{Done, Refused}
use Rattle.param_flow.specs.declared.reply.Cause.TheVariants as cause
use Rattle.param_flow.specs.Semantics.{Semantics, chart_of}
use Rattle.param_flow.specs.Machine.{reply_of, state_after}
use Rattle.param_flow.specs.Commands.{IsCommand}
use Rattle.param_flow.specs.Script.{refused_line}

-- the text of a reply to a command other than a print
abbrev pub reply_text : Reply → List ℕ
reply_text Done = codes "ok\n"
reply_text (Refused cause.Line) = refused_line
reply_text (Refused cause.Name) = codes "refused name\n"
reply_text (Refused (cause.Row row field)) = codes "refused row " ++ decimal row ++ codes " " ++ quoted field ++ codes "\n"
reply_text (Refused cause.Limit) = codes "refused limit\n"
reply_text (Refused cause.Overflow) = codes "refused overflow\n"

-- no note is made of a command
abbrev pub without_notes : State → ℕ → Command → Reply → List ℕ → Type 0
without_notes st n c reply note = note ≡ []

-- What is replied to a line in a state, and the state after it. What note is made of a command, on a line of this number, with its reply, is said
-- by `Noted`.
pub data IsReply (meaning : Semantics) (Noted : State → ℕ → Command → Reply → List ℕ → Type 0)
    : State → ℕ → List ℕ → List ℕ → List ℕ → State → Type 0 where
  -- the line is no command
  refused : (st : State) (n : ℕ) (line : List ℕ) → ((c : Command) → IsCommand line c → ⊥) → IsReply meaning Noted st n line refused_line [] st
  -- a print is replied to with the chart of the state
  printed : (st : State) (n : ℕ) (line text : List ℕ) → IsCommand line Print → chart_of meaning st ≡ Drawn text
      → IsReply meaning Noted st n line text [] st
  -- any other command is replied to by the direct machine
  told : (st : State) (n : ℕ) (line note : List ℕ) (c : Command) → IsCommand line c → c ≢ Print → Noted st n c (reply_of meaning st c) note
      → IsReply meaning Noted st n line (reply_text (reply_of meaning st c)) note (state_after meaning st c)
