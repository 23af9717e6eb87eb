-- Values of parameters that are put in place.
use Rattle.std.specs.Prelude.{ℕ, List, Some}
use Rattle.cell_value.specs.declared.cell.Cell.{Cell}
use Rattle.cell_value.specs.State.{State}
use Rattle.param_flow.specs.declared.reply.Reply.{Reply}
use Rattle.param_flow.specs.Machine.{state_if}

-- a state with these values
abbrev pub state_with : State → List (List ℕ × Cell) → State
state_with st params = record { next_id = st.next_id; sources = st.sources; params = params; stores = st.stores }

-- after Done a state has these values, else it is as it was
abbrev pub state_if_put : Reply → State → List (List ℕ × Cell) → State
state_if_put reply st params = state_if reply st (Some (state_with st params))
