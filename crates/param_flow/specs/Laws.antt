-- What holds of the direct machine, whatever a specification means.
use Rattle.std.specs.Prelude.{◌≡◌, ℕ, List}
use Rattle.cell_value.specs.State.{State}
use Rattle.param_flow.specs.declared.command.Command.{Command}
use Rattle.param_flow.specs.Semantics.{Semantics}
use Rattle.param_flow.specs.Machine.{reply_of, state_after}
use Rattle.param_flow.specs.States.{IsStateFor, IsMeaning}
use Rattle.param_flow.specs.Playing.{IsReply, without_notes}
use Rattle.param_flow.specs.Script.{IsOutputOf}

-- the state after any command is again a state of the specification
abbrev pub StatesAreKept : Type 0
StatesAreKept = (meaning : Semantics) (st : State) (c : Command) → IsMeaning meaning → IsStateFor meaning st → IsStateFor meaning (state_after meaning st c)

-- two meanings give the same of a state
pub record GiveTheSame (a b : Semantics) (st : State) : Type 0 where
  pub values : a.values st ≡ b.values st
  pub draw : a.draw st ≡ b.draw st
  pub rows : a.rows st ≡ b.rows st

-- Two meanings agree on the states of the second: they have the same sources, parameters, selections and plots, and give the same of each state.
pub record AgreeOnStates (a b : Semantics) : Type 0 where
  pub sources : a.sources ≡ b.sources
  pub params : a.params ≡ b.params
  pub selections : a.selections ≡ b.selections
  pub plots : a.plots ≡ b.plots
  pub states : (st : State) → IsStateFor b st → GiveTheSame a b st

-- two meanings that agree on states are one to the machine: it replies the same, and leaves the same state
abbrev pub MachinesAgree : Type 0
MachinesAgree =
    (a b : Semantics) (st : State) (c : Command) → AgreeOnStates a b → IsMeaning b → IsStateFor b st
    → (reply_of a st c ≡ reply_of b st c) × (state_after a st c ≡ state_after b st c)

-- and so what is an output of a script over the second is one over the first
abbrev pub OutputsAgree : Type 0
OutputsAgree =
    (a b : Semantics) (st now : State) (script out notes : List ℕ) → AgreeOnStates a b → IsMeaning b → IsStateFor b st
    → IsOutputOf (IsReply b without_notes) st script out notes now → IsOutputOf (IsReply a without_notes) st script out notes now
