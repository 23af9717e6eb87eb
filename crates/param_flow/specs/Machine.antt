-- The direct machine: what is replied to a command, and the state after it. It knows only the present state, and of the specification
-- what its meaning gives.
use Rattle.std.specs.Prelude.{◌≡◌, refl, ℕ, pos, suc, ◌+◌, ◌^◌, not, ◌&&◌, ◌||◌, codes, nat_lt, Bool, true, false, Option, Some, None, List, []}
use Rattle.std.specs.Prelude.{◌∷◌, ◌++◌, length, map, sum_by, if◌then◌else◌}
use Rattle.std.specs.List.{list_all, flat_map}
use Rattle.std.specs.Option.{option_map}
use Rattle.std.specs.Str.{bytes_eq}
use Rattle.fixed_num.specs.Ranges.{◌>>=◌, all_found}
use Rattle.json_exact.specs.declared.json.Json.{Json, out-Json}
use Rattle.json_exact.specs.declared.json.Json.TheVariants as json
use Rattle.cell_value.specs.declared.cell.Cell.{Cell}
use Rattle.cell_value.specs.declared.cell.Cell.TheVariants as cell
use Rattle.cell_value.specs.declared.state.Keyed.{Keyed}
use Rattle.cell_value.specs.declared.state.StoreOf.{StoreOf}
use Rattle.cell_value.specs.Datum.{Datum, datum_of}
use Rattle.cell_value.specs.State.{Dataset, State, ids_of, most_rows, greatest_id}
use Rattle.expr_eval.specs.Plain.{no_values}
use Rattle.expr_eval.specs.Values.{Values}
use Rattle.scene_tree.specs.Outcome.{Outcome}
use Rattle.scene_tree.specs.Outcome as outcome
use Rattle.param_flow.specs.declared.command.ChangeOf.{ChangeOf}
use Rattle.param_flow.specs.declared.command.Command.{Command}
use Rattle.param_flow.specs.declared.command.Command.TheVariants.{Change, Set, Event as OfMouse, Print}
use Rattle.param_flow.specs.declared.event.Event.{Event}
use Rattle.param_flow.specs.declared.event.Event.TheVariants as mouse
use Rattle.param_flow.specs.declared.reply.Reply.{Reply}
use Rattle.param_flow.specs.declared.reply.Reply.TheVariants.{Done, Refused}
use Rattle.param_flow.specs.declared.reply.Cause.TheVariants as cause
use Rattle.selection_events.specs.declared.selection.SelectionOf.{SelectionOf}
use Rattle.selection_events.specs.declared.selection.PlotOf.{PlotOf}
use Rattle.selection_events.specs.Events.{Seen, stores_clicked, stores_toggled, stores_cleared, stores_dragged}
use Rattle.data_rows.specs.JsonRows.{row_of_json, first_bad}
use Rattle.param_flow.specs.Change.{names_of_change, rows_after, count_staying}
use Rattle.param_flow.specs.Semantics.{Semantics, Picture, seen_over, has_source, has_param, has_settable}
use Rattle.param_flow.specs.Semantics as kind

-- the inserted rows, in order: their ids count on from the next one
abbrev pub new_rows : ℕ → List Json → List Keyed
new_rows id [] = []
new_rows id (tree ∷ trees) = record { key = record { id = id; branch = 0 }; row = row_of_json tree } ∷ new_rows (suc id) trees

-- a source after a change, if it has this name: its rows as the change leaves them, and then the new ones
abbrev pub source_after : Values → List ℕ → ChangeOf → List Datum → Dataset → Option Dataset
source_after values name change new source =
    if bytes_eq source.name name
    then option_map (λ rows. record { name = source.name; rows = rows ++ new }) (rows_after values change source.rows)
    else Some source

-- the state after a change; None where one of its expressions is out of range
abbrev pub state_changed : Values → State → List ℕ → ChangeOf → Option State
state_changed values st name change = do
  sources ← all_found (map (source_after values name change (map datum_of (new_rows st.next_id change.insert))) st.sources)
  Some (record {
    next_id = st.next_id + length change.insert;
    sources = sources;
    params = st.params;
    stores = st.stores;
  })

-- a parameter with this value, if it has this name
abbrev pub with_value : List ℕ → Cell → List ℕ × Cell → List ℕ × Cell
with_value name value param = if bytes_eq param.0 name then (param.0, value) else param

-- the state after a parameter was set
abbrev pub state_set : State → List ℕ → Cell → State
state_set st name value =
    record { next_id = st.next_id; sources = st.sources; params = map (with_value name value) st.params; stores = st.stores }

-- how many rows of a source a change would leave
abbrev pub count_left : Values → List ℕ → ChangeOf → Dataset → ℕ
count_left values name change source =
    if bytes_eq source.name name then count_staying values change.remove source.rows else length source.rows

-- whether the sources would hold too many rows, or an inserted row would have too great an id
abbrev pub is_past_limit : Values → State → List ℕ → ChangeOf → Bool
is_past_limit values st name change =
    nat_lt most_rows (sum_by (count_left values name change) st.sources + length change.insert)
    || nat_lt (greatest_id + 1) (st.next_id + length change.insert)

-- a command is done where the new chart can be drawn
abbrev pub reply_to_chart : {X : Type 0} → Outcome X → Reply
reply_to_chart (outcome.Drawn x) = Done
reply_to_chart outcome.Overflow = Refused cause.Overflow
reply_to_chart (outcome.Panels n) = Refused cause.Limit

-- the stores of selections after an event of the mouse on what is seen
abbrev pub stores_on : List PlotOf → List SelectionOf → Seen → Event → List StoreOf → List StoreOf
stores_on plots selections seen (mouse.Click x y) stores = stores_clicked plots selections seen x y stores
stores_on plots selections seen (mouse.Shift x y) stores = stores_toggled plots selections seen x y stores
stores_on plots selections seen (mouse.Double x y) stores = stores_cleared plots selections seen x y stores
stores_on plots selections seen (mouse.Drag x1 y1 x2 y2) stores =
    stores_dragged plots selections seen (record { x1 = x1; y1 = y1; x2 = x2; y2 = y2 }) stores

-- the state with these stores
abbrev pub with_stores : State → List StoreOf → State
with_stores st stores = record { next_id = st.next_id; sources = st.sources; params = st.params; stores = stores }

-- The state that an event would leave, from what is drawn and the rows that marks draw. Where nothing is drawn, it is the state itself.
abbrev pub state_on : List PlotOf → List SelectionOf → (ℕ → List Datum) → State → Event → Outcome Picture → State
state_on plots selections rows st event (outcome.Drawn picture) =
    with_stores st (stores_on plots selections (seen_over rows picture) event st.stores)
state_on plots selections rows st event outcome.Overflow = st
state_on plots selections rows st event (outcome.Panels n) = st

-- a row that can't be read is refused; where there is none, the rest decides
abbrev pub reply_to_rows : Option (ℕ × List ℕ) → Reply → Reply
reply_to_rows (Some bad) rest = Refused (cause.Row bad.0 bad.1)
reply_to_rows None rest = rest

-- where a command is refused the state stays
abbrev pub state_if : Reply → State → Option State → State
state_if Done st (Some new) = new
state_if reply st new = st

module _ (meaning : Semantics) where
  -- a change is done where the chart of the state after it can be drawn
  abbrev pub reply_to_state : Option State → Reply
  reply_to_state None = Refused cause.Overflow
  reply_to_state (Some new) = reply_to_chart (meaning.draw new)

  -- whether a change of this source names what is there: the source, and in its expressions parameters
  abbrev pub has_names : List ℕ → ChangeOf → Bool
  has_names name change = has_source meaning name && list_all (has_param meaning) (names_of_change change)

  -- what is replied to a change: the first refusal that holds, in this order
  abbrev pub reply_to_change : State → List ℕ → ChangeOf → Reply
  reply_to_change st name change =
      if not (has_names name change) then Refused cause.Name
      else reply_to_rows (first_bad 0 change.insert)
      (if is_past_limit (meaning.values st) st name change then Refused cause.Limit
      else reply_to_state (state_changed (meaning.values st) st name change))

  -- what is replied to a setting: only a parameter that is neither computed nor a selection can be set
  abbrev pub reply_to_set : State → List ℕ → Cell → Reply
  reply_to_set st name value =
      if has_settable meaning name then reply_to_chart (meaning.draw (state_set st name value)) else Refused cause.Name

  -- the state that an event of the mouse would leave
  abbrev pub state_by : State → Event → State
  state_by st event = state_on meaning.plots meaning.selections (meaning.rows st) st event (meaning.draw st)

  -- an event is done where the chart of the state after it can be drawn
  abbrev pub reply_to_event : State → Event → Reply
  reply_to_event st event = reply_to_chart (meaning.draw (state_by st event))

  -- what is replied to a command other than a print
  abbrev pub reply_of : State → Command → Reply
  reply_of st (Change name change) = reply_to_change st name change
  reply_of st (Set name value) = reply_to_set st name value
  reply_of st (OfMouse event) = reply_to_event st event
  reply_of st Print = Done

  -- the state after a command
  abbrev pub state_after : State → Command → State
  state_after st (Change name change) = state_if (reply_to_change st name change) st (state_changed (meaning.values st) st name change)
  state_after st (Set name value) = state_if (reply_to_set st name value) st (Some (state_set st name value))
  state_after st (OfMouse event) = state_if (reply_to_event st event) st (Some (state_by st event))
  state_after st Print = st

-- The rules at work.

-- one source of this name, without rows
abbrev empty_state : ℕ → State
empty_state next_id =
    record { next_id = next_id; sources = record { name = codes "t"; rows = [] } ∷ []; params = (codes "k", cell.Null) ∷ []; stores = [] }

-- a picture without panels
abbrev no_panels : Picture
no_panels = record { scene = record { width = pos 0; height = pos 0; panels = [] }; inverts = λ index name channel. None }

-- that source, a parameter that can be set, one that is computed, and a selection; and this is drawn of each state
abbrev with_chart : Outcome Picture → Semantics
with_chart drawn = record {
  sources = codes "t" ∷ [];
  params = record { name = codes "k"; kind = kind.Settable } ∷ record { name = codes "twice"; kind = kind.Computed }
      ∷ record { name = codes "pick"; kind = kind.Selection } ∷ [];
  selections = [];
  plots = [];
  temporal = λ plot s d. false;
  values = λ st. no_values;
  draw = λ st. drawn;
  rows = λ st unit. [];
}

-- a change that inserts rows
abbrev inserting : List Json → ChangeOf
inserting trees = record { remove = None; modify = []; insert = trees }

-- a chart that is always drawn
abbrev any_chart : Semantics
any_chart = with_chart (outcome.Drawn no_panels)

no_such_source : reply_to_change any_chart (empty_state 1) (codes "u") (inserting (json.List [] ∷ [])) ≡ Refused cause.Name
no_such_source = refl

a_row_that_cannot_be_read : reply_to_change any_chart (empty_state 1) (codes "t") (inserting (json.Null ∷ json.Huge ∷ []))
    ≡ Refused (cause.Row 1 (codes "data"))
unfolding out-Json denote.Hole.Carrier.out
a_row_that_cannot_be_read = refl

the_greatest_id : reply_to_change any_chart (empty_state (10 ^ 15)) (codes "t") (inserting (json.Null ∷ [])) ≡ Done
unfolding out-Json denote.Hole.Carrier.out
the_greatest_id = refl

an_id_too_great : reply_to_change any_chart (empty_state (10 ^ 15 + 1)) (codes "t") (inserting (json.Null ∷ [])) ≡ Refused cause.Limit
unfolding out-Json denote.Hole.Carrier.out
an_id_too_great = refl

no_row_at_the_greatest_id : reply_to_change any_chart (empty_state (10 ^ 15 + 1)) (codes "t") (inserting []) ≡ Done
no_row_at_the_greatest_id = refl

-- a chart with too many panels
too_many_panels : reply_to_change (with_chart (outcome.Panels 401)) (empty_state 1) (codes "t") (inserting []) ≡ Refused cause.Limit
too_many_panels = refl

a_chart_out_of_range : reply_to_change (with_chart outcome.Overflow) (empty_state 1) (codes "t") (inserting []) ≡ Refused cause.Overflow
a_chart_out_of_range = refl

-- the row of this id, with so many millionths under `b`
abbrev row_with : ℕ → ℕ → Datum
row_with id b = record {
  key = record { id = id; branch = 0 };
  cell = λ name. if bytes_eq name (codes "b") then cell.Number (pos b) else cell.Null;
}

-- a source with two rows, and the next id
abbrev two_rows : ℕ → State
two_rows next_id = record {
  next_id = next_id;
  sources = record { name = codes "t"; rows = row_with 1 10 ∷ row_with 2 20 ∷ [] } ∷ [];
  params = [];
  stores = [];
}

-- the ids of the rows of a state
abbrev ids_in : State → List ℕ
ids_in st = flat_map (λ (source : Dataset). ids_of source.rows) st.sources

-- the ids after a change, and the next one
abbrev ids_after : ChangeOf → Option (List ℕ × ℕ)
ids_after change = option_map (λ st. (ids_in st, st.next_id)) (state_changed no_values (two_rows 3) (codes "t") change)

new_rows_come_last_with_the_next_ids : ids_after (inserting (json.Null ∷ json.Null ∷ [])) ≡ Some (1 ∷ 2 ∷ 3 ∷ 4 ∷ [], 5)
unfolding out-Json denote.Hole.Carrier.out
new_rows_come_last_with_the_next_ids = refl

a_bad_row_comes_before_the_limit :
    reply_to_change any_chart (two_rows (10 ^ 15 + 1)) (codes "t") (inserting (json.Huge ∷ [])) ≡ Refused (cause.Row 0 (codes "data"))
unfolding out-Json denote.Hole.Carrier.out
a_bad_row_comes_before_the_limit = refl

the_limit_comes_before_the_chart :
    reply_to_change (with_chart outcome.Overflow) (two_rows (10 ^ 15 + 1)) (codes "t") (inserting (json.Null ∷ [])) ≡ Refused cause.Limit
unfolding out-Json denote.Hole.Carrier.out
the_limit_comes_before_the_chart = refl

a_refused_change_leaves_the_state :
    state_after (with_chart outcome.Overflow) (two_rows 3) (Change (codes "t") (inserting (json.Null ∷ []))) ≡ two_rows 3
unfolding out-Json denote.Hole.Carrier.out
a_refused_change_leaves_the_state = refl

a_parameter_is_set : state_after any_chart (empty_state 1) (Set (codes "k") (cell.Flag true))
    ≡ state_set (empty_state 1) (codes "k") (cell.Flag true)
a_parameter_is_set = refl

a_computed_parameter : reply_of any_chart (empty_state 1) (Set (codes "twice") cell.Null) ≡ Refused cause.Name
a_computed_parameter = refl

a_selection : reply_of any_chart (empty_state 1) (Set (codes "pick") cell.Null) ≡ Refused cause.Name
a_selection = refl

an_event_beside_all_panels : (reply_of any_chart (empty_state 1) (OfMouse (mouse.Click (pos 0) (pos 0))) ≡ Done)
    × (state_after any_chart (empty_state 1) (OfMouse (mouse.Click (pos 0) (pos 0))) ≡ empty_state 1)
an_event_beside_all_panels = (refl, refl)

an_event_whose_chart_is_out_of_range :
    reply_of (with_chart outcome.Overflow) (empty_state 1) (OfMouse (mouse.Double (pos 0) (pos 0))) ≡ Refused cause.Overflow
an_event_whose_chart_is_out_of_range = refl
