-- What a Vega specification means to commands, and what comes of commands and scripts over it.
use Rattle.std.specs.Prelude.{ℕ, List, [], map, unwrap_or}
use Rattle.cell_value.specs.declared.cell.Cell.{Cell}
use Rattle.cell_value.specs.Datum.{Datum}
use Rattle.cell_value.specs.State.{State}
use Rattle.expr_eval.specs.Stores.{values_of_stores}
use Rattle.expr_eval.specs.Values.{Values}
use Rattle.param_flow.specs.declared.command.Command.{Command}
use Rattle.param_flow.specs.declared.reply.Reply.{Reply}
use Rattle.param_flow.specs.Semantics.{Semantics, ParamKind, ParamOf}
use Rattle.param_flow.specs.Semantics as kind
use Rattle.param_flow.specs.Machine.{reply_of, state_after}
use Rattle.param_flow.specs.Playing.{IsReply, without_notes}
use Rattle.param_flow.specs.Script.{IsOutputOf}
use Rattle.vega_spec.specs.declared.names.Parameter.{Parameter}
use Rattle.vega_spec.specs.declared.names.ParameterKind.{ParameterKind}
use Rattle.vega_spec.specs.declared.names.ParameterKind.TheVariants as vega
use Rattle.vega_spec.specs.declared.spec.Group.{out-Group}
use Rattle.vega_spec.specs.declared.spec.VgSpec.{VgSpec}
use Rattle.vega_spec.specs.Names.{sources_of, parameters_of}
use Rattle.vega_signals.specs.Parameters.{values_with}
use Rattle.vega_signals.specs.Signals.{signal_values}
use Rattle.vega_selections.specs.Plots.{plots_of}
use Rattle.vega_selections.specs.Selections.{selections_of}
use Rattle.vega_events.specs.Laws.{plain_of}
use Rattle.vega_meaning.specs.Charts.{vega_picture_of}
use Rattle.vega_meaning.specs.Times.{temporal_of}
use Rattle.vega_meaning.specs.UnitRows.{unit_rows}

-- what commands may do with a parameter of this kind
abbrev pub param_kind_of : ParameterKind → ParamKind
param_kind_of vega.Settable = kind.Settable
param_kind_of vega.Computed = kind.Computed
param_kind_of vega.Selection = kind.Selection

-- a parameter of the specification, as commands see it
abbrev pub param_of : Parameter → ParamOf
param_of p = record { name = p.name; kind = param_kind_of p.kind }

-- the values of the signals in a state; none where one of them is out of range, but of such a state nothing is drawn
abbrev pub signals_in : VgSpec → State → List (List ℕ × Cell)
signals_in g st = unwrap_or (signal_values (values_of_stores st.stores) (out-Group g.group) st.sources st.params) []

-- what the expressions of a command read in a state: the values of its parameters, those that are computed among them, and its stores; no scale
-- has a domain there
abbrev pub values_in : VgSpec → State → Values
values_in g st = values_with (values_of_stores st.stores) (signals_in g st) []

-- the rows that the mark of a unit draws in a state
abbrev pub rows_in : VgSpec → State → ℕ → List Datum
rows_in g st = unit_rows g (values_of_stores st.stores) st.params st.sources

-- it has its sources, its parameters, its selections and its plots
abbrev pub vega_semantics : VgSpec → Semantics
vega_semantics g = record {
  sources = sources_of g;
  params = map param_of (parameters_of g);
  selections = map plain_of (selections_of g);
  plots = plots_of g;
  temporal = temporal_of g;
  values = values_in g;
  draw = vega_picture_of g;
  rows = rows_in g;
}

-- what the direct machine replies to a command other than a print
abbrev pub vega_reply_of : VgSpec → State → Command → Reply
vega_reply_of g = reply_of (vega_semantics g)

-- the state after a command
abbrev pub vega_state_after : VgSpec → State → Command → State
vega_state_after g = state_after (vega_semantics g)

-- what is replied to a line, by its number, and the state after it
abbrev pub IsVegaReply : VgSpec → State → ℕ → List ℕ → List ℕ → List ℕ → State → Type 0
IsVegaReply g = IsReply (vega_semantics g) without_notes

-- the output of a script from a state, its notes, and the state after it
abbrev pub IsVegaOutput : VgSpec → State → List ℕ → List ℕ → List ℕ → State → Type 0
IsVegaOutput g = IsOutputOf (IsVegaReply g)
