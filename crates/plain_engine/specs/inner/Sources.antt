-- What a change makes of one of the sources of a state, by its index.
use Rattle.std.specs.Prelude.{◌≡◌, ℕ, zero, suc, ◌+◌, Option, Some, None, List, [], ◌∷◌, length, map, if◌then◌else◌}
use Rattle.std.specs.Option.{option_map}
use Rattle.cell_value.specs.declared.cell.Cell.{Cell}
use Rattle.cell_value.specs.declared.state.Keyed.{Keyed}
use Rattle.cell_value.specs.declared.state.Named.{Named}
use Rattle.cell_value.specs.declared.state.StoreOf.{StoreOf}
use Rattle.cell_value.specs.State.{Dataset, dataset_of, State}
use Rattle.plot_scenes.specs.declared.scenes.Drawing.{Drawing}
use Rattle.expr_eval.specs.Stores.{values_of_stores}
use Rattle.expr_eval.specs.Values.{Values}
use Rattle.scene_tree.specs.Outcome.{Drawn}
use Rattle.param_flow.specs.declared.command.ChangeOf.{ChangeOf}
use Rattle.param_flow.specs.declared.reply.Reply.{Reply}
use Rattle.param_flow.specs.declared.reply.Reply.TheVariants.{Done, Refused}
use Rattle.param_flow.specs.declared.reply.Cause.TheVariants as cause
use Rattle.param_flow.specs.Machine.{reply_to_chart}
use Rattle.param_flow.specs.inner.Sources.{with_data, rows_changed, is_past}
use Rattle.vega_spec.specs.declared.spec.VgSpec.{VgSpec}
use Rattle.vega_signals.specs.Parameters.{values_with}
use Rattle.vega_charts.specs.Charts.{drawing_of}
use Rattle.vega_meaning.specs.Charts.{picture_over}
use Rattle.plain_engine.specs.inner.Pictures.{shown, HasScales}

-- the rows of the source at an index; none where there is no source
abbrev pub rows_at : List Named → ℕ → List Keyed
rows_at [] index = []
rows_at (source ∷ sources) zero = source.rows
rows_at (source ∷ sources) (suc index) = rows_at sources index

-- sources with these rows in the one at an index
abbrev pub with_rows : List Named → ℕ → List Keyed → List Named
with_rows [] index rows = []
with_rows (source ∷ sources) zero rows = record { name = source.name; rows = rows } ∷ sources
with_rows (source ∷ sources) (suc index) rows = source ∷ with_rows sources index rows

-- what is read over these stores and values of signals
abbrev pub values_over : List StoreOf → List (List ℕ × Cell) → Values
values_over stores signals = values_with (values_of_stores stores) signals []

-- the sources after a change of the one at an index; None where an expression is out of range
abbrev pub sources_changed : List StoreOf → ℕ → List (List ℕ × Cell) → List Dataset → ℕ → ChangeOf → Option (List Dataset)
sources_changed stores next_id signals sources index change =
    option_map (with_data sources index) (rows_changed (values_over stores signals) next_id sources index change)

-- what is replied where these sources are left
abbrev pub reply_to_sources : VgSpec → List StoreOf → List (List ℕ × Cell) → Option (List Dataset) → Reply
reply_to_sources g stores params None = Refused cause.Overflow
reply_to_sources g stores params (Some sources) = reply_to_chart (picture_over g sources params stores)

-- what is replied to a change of the source at an index that names what is there and whose rows can be read
abbrev pub reply_at : VgSpec → List StoreOf → ℕ → List (List ℕ × Cell) → List (List ℕ × Cell) → List Dataset → ℕ → ChangeOf → Reply
reply_at g stores next_id params signals sources index change =
    if is_past (values_over stores signals) next_id sources index change then Refused cause.Limit
    else reply_to_sources g stores params (sources_changed stores next_id signals sources index change)

-- the state after it
abbrev pub state_at : List (List ℕ × Cell) → State → ℕ → ChangeOf → Option State
state_at signals st index change =
    option_map (λ sources. record {
      next_id = st.next_id + length change.insert;
      sources = sources;
      params = st.params;
      stores =
          st.stores;
    })
    (sources_changed st.stores st.next_id signals st.sources index change)

-- after Done sources are as they were changed, else as they were
abbrev pub sources_if : Reply → List Named → List Named → List Named
sources_if Done old new = new
sources_if (Refused cause) old new = old

-- after Done they read as the changed ones, else they are as they were
abbrev pub IsLeft : Reply → Option (List Dataset) → List Named → List Named → Type 0
IsLeft Done changed old new = changed ≡ Some (map dataset_of new)
IsLeft (Refused cause) changed old new = new ≡ old

-- what is held is what is drawn over these sources, values and stores: its scene, and the scales of its plots
pub record IsDrawingOf (g : VgSpec) (sources : List Dataset) (params : List (List ℕ × Cell)) (stores : List StoreOf) (held : Drawing) : Type 0 where
  pub picture : picture_over g sources params stores ≡ Drawn (shown g held)
  pub scales : HasScales (drawing_of g (values_of_stores stores) params sources) held

-- after Done it is what is drawn over these sources, else it is as it was
abbrev pub IsShown : Reply → VgSpec → List (List ℕ × Cell) → List StoreOf → List Named → Drawing → Drawing → Type 0
IsShown Done g params stores sources old new = IsDrawingOf g (map dataset_of sources) params stores new
IsShown (Refused cause) g params stores sources old new = new ≡ old
