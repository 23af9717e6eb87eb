-- The signals of a compiled specification have the values of the parameters. They settle in as many rounds, since the one signal more, that of the list
-- without rows, has a round of its own there, as one round more than there are computed parameters is counted here; it is null from its first round on,
-- and a name that stands for nothing reads as null too. So what expressions read at the top of the compiled specification is what they read of the
-- parameters, and the same signals have no value. It wants of a state that its stores are those of the selections: a store with the name of another parameter
-- would be hidden by it in the one, and not in the other.
use Rattle.std.specs.Prelude.{◌≡◌, ◌≢◌, ℕ, Bool, true, false, Option, Some, None, List, [], ◌∷◌, ◌++◌, All, AllPairs, map, filter, is_some, unwrap_or}
use Rattle.std.specs.Prelude.{if◌then◌else◌}
use Rattle.std.specs.List.{list_any}
use Rattle.std.specs.Option.{option_map}
use Rattle.fixed_num.specs.Ranges.{all_found}
use Rattle.cell_value.specs.declared.cell.Cell.{Cell}
use Rattle.cell_value.specs.declared.cell.Cell.TheVariants.{Null}
use Rattle.cell_value.specs.declared.state.StoreOf.{StoreOf}
use Rattle.cell_value.specs.State.{Dataset, State}
use Rattle.expr_eval.specs.Stores.{values_of_stores, store_named}
use Rattle.expr_eval.specs.Values.{Values}
use Rattle.vega_spec.specs.declared.data.DataSet.{DataSet}
use Rattle.vega_lists.specs.Scopes.{no_lists}
use Rattle.vega_lists.specs.Lists.{lists_of}
use Rattle.vega_signals.specs.Extents.{Settled}
use Rattle.vega_signals.specs.Lacking.{set_lacks}
use Rattle.vega_signals.specs.Parameters.{values_with}
use Rattle.vega_signals.specs.Settling.{settled_own, values_inside}
use Rattle.vega_signals.specs.Signals.{valued_here}
use Rattle.vega_copies.specs.Outlines.{AGroup, AMark, Marks, NoMarks, Object, outline_of}
use Rattle.vega_copies.specs.Scopes.{Names, names_at_top, names_in_object, keeps_signals}
use Rattle.vl_spec.specs.declared.params.ParamKind.{ParamKind}
use Rattle.vl_spec.specs.declared.params.ParamKind.TheVariants as kind
use Rattle.vl_spec.specs.declared.params.ParamOf.{ParamOf}
use Rattle.vl_spec.specs.declared.spec.VlSpec.{VlSpec}
use Rattle.plan_kit.specs.declared.plan.Plan.{Plan}
use Rattle.chart_meaning.specs.Parameters.{settled, values_in, values_told, keeps_all, expression_in}
use Rattle.vega_assemble.specs.Assembled.{sets_of, written_with}
use Rattle.vega_assemble.specs.Names.{none_name}
use Rattle.vega_assemble.specs.Signals.{signals_of}

-- ---- what is asked of a state

-- no store has the name
abbrev pub HasNoStore : List StoreOf → List ℕ → Type 0
HasNoStore stores name = store_named stores name ≡ None

-- no store has the name of a parameter, where it is computed
abbrev pub IsApart : List StoreOf → ParamOf → Type 0
IsApart stores p = is_some (expression_in p.kind) ≡ true → HasNoStore stores p.name

-- None of a state's stores has the name of a parameter to which the state gives a value, of a computed one, or of the signal that is always null.
pub record StoresAreApart (stem : List ℕ) (params : List ParamOf) (st : State) : Type 0 where
  pub given : All (λ (entry : List ℕ × Cell). HasNoStore st.stores entry.0) st.params
  pub computed : All (IsApart st.stores) params
  pub none : HasNoStore st.stores (none_name stem)

-- the names of parameters
abbrev pub name_of : ParamOf → List ℕ
name_of p = p.name

-- those that can be set, and those that are selections
abbrev pub is_set : ParamKind → Bool
is_set (kind.Value c) = true
is_set (kind.Expr e) = false
is_set (kind.Select s) = false

abbrev pub is_selection : ParamKind → Bool
is_selection (kind.Value c) = false
is_selection (kind.Expr e) = false
is_selection (kind.Select s) = true

abbrev pub can_be_set : ParamOf → Bool
can_be_set p = is_set p.kind

abbrev pub selects : ParamOf → Bool
selects p = is_selection p.kind

-- A state gives a value to each parameter that can be set, and has a store for each selection, in their order.
pub record IsStateOfParams (params : List ParamOf) (st : State) : Type 0 where
  pub given : map (λ (entry : List ℕ × Cell). entry.0) st.params ≡ map name_of (filter can_be_set params)
  pub stores : map (λ (store : StoreOf). store.name) st.stores ≡ map name_of (filter selects params)

-- the names of parameters differ
abbrev pub NamesDiffer : List ParamOf → Type 0
NamesDiffer params = AllPairs (λ a b. a ≢ b) (map name_of params)

-- Where they do, and none is that of the null signal, the stores of such a state are apart.
abbrev pub StoresOfStatesAreApart : Type 0
StoresOfStatesAreApart = (stem : List ℕ) (params : List ParamOf) (st : State) → NamesDiffer params → All (λ name. name ≢ none_name stem) (map name_of params)
    → IsStateOfParams params st → StoresAreApart stem params st

-- ---- what settles

-- the signal that is always null, with its value
abbrev pub null_signal : List ℕ → List ℕ × Option Cell
null_signal stem = (none_name stem, Some Null)

-- the values at which the signals of the compiled top settle
abbrev pub settled_top : List ℕ → VlSpec → Plan → State → Settled
settled_top stem s p st =
    settled_own st.sources no_lists (values_of_stores st.stores) st.params (signals_of stem p.scales p.selections s.params) (sets_of stem s p)

-- They are those of the parameters, and null of one signal more.
abbrev pub SignalsSettleAlike : Type 0
SignalsSettleAlike = (stem : List ℕ) (s : VlSpec) (p : Plan) (st : State) → StoresAreApart stem s.params st
    → settled_top stem s p st ≡ settled s.params st ++ null_signal stem ∷ []

-- So expressions read there what they read of the parameters; a name without value there is that of a lost parameter.
abbrev pub ValuesAreAlike : Type 0
ValuesAreAlike = (stem : List ℕ) (s : VlSpec) (p : Plan) (st : State) → StoresAreApart stem s.params st
    → values_inside (settled_top stem s p st) (values_of_stores st.stores) ≡ values_in s.params st

-- The expressions of commands read the same too.
abbrev pub CommandsReadAlike : Type 0
CommandsReadAlike = (stem : List ℕ) (s : VlSpec) (p : Plan) (st : State) → StoresAreApart stem s.params st
    → values_with (values_of_stores st.stores) (unwrap_or (all_found (map valued_here (settled_top stem s p st))) []) [] ≡ values_told s.params st

-- ---- what names stand for at the top

-- what names stand for where expressions read these values, and data sets stand for lists
abbrev pub names_over : Values → List Dataset → List DataSet → Option Names
names_over values sources sets =
    if list_any (set_lacks values) sets then None
    else option_map (λ lists. record { lists = lists; values = values }) (lists_of values sources no_lists sets)

-- the top of what is written of a plan
abbrev pub top_written : List ℕ → VlSpec → Plan → Object
top_written stem s p = (outline_of (written_with stem s p)).object

-- At the top names stand for the lists of the data sets, where expressions read what they read of the parameters.
abbrev pub NamesAtTopAreThese : Type 0
NamesAtTopAreThese = (stem : List ℕ) (s : VlSpec) (p : Plan) (st : State) → StoresAreApart stem s.params st
    → names_at_top (values_of_stores st.stores) st.params st.sources (top_written stem s p) ≡ names_over (values_in s.params st) st.sources (sets_of stem s p)

-- Each signal of the top has a value exactly where no parameter is lost. It wants of a state the values of just those that can be set, and of parameters
-- that they differ in their names.
abbrev pub SignalsAreKeptAlike : Type 0
SignalsAreKeptAlike = (stem : List ℕ) (s : VlSpec) (p : Plan) (st : State) (names : Names) → NamesDiffer s.params → IsStateOfParams s.params st
    → names.values ≡ values_in s.params st → keeps_signals names (top_written stem s p) ≡ keeps_all (settled s.params st)

-- ---- what names stand for further in

-- In an object without signals and data sets names stand for what they stand for round it.
abbrev pub NothingIsAdded : Type 0
NothingIsAdded = (sources : List Dataset) (outer : Names) (o : Object) → o.signals ≡ [] → o.sets ≡ [] → names_in_object sources outer o ≡ Some outer

-- no group among some marks, or inside one of them, has a signal or a data set
abbrev pub AddNothing : Marks → Type 0
AddNothing NoMarks = Unit {0}
AddNothing (AMark unit m others) = AddNothing others
AddNothing (AGroup object inside others) = (object.signals ≡ []) × (object.sets ≡ []) × AddNothing inside × AddNothing others

-- All objects inside the top are such.
abbrev pub InsideAddsNothing : Type 0
InsideAddsNothing = (stem : List ℕ) (s : VlSpec) (p : Plan) → AddNothing (outline_of (written_with stem s p)).marks
