-- What holds of the values of signals.
use Rattle.std.specs.Prelude.{◌≡◌, ℕ, List, ◌++◌}
use Rattle.cell_value.specs.State.{Dataset}
use Rattle.expr_eval.specs.Values.{Values}
use Rattle.vega_spec.specs.declared.data.DataSet.{DataSet}
use Rattle.vega_spec.specs.declared.signals.Signal.{Signal}
use Rattle.vega_lists.specs.Scopes.{Scope}
use Rattle.vega_signals.specs.Extents.{Settled}
use Rattle.vega_signals.specs.Settling.{Valued, as_given, values_inside, next_own, settled_own}
use Rattle.vega_signals.specs.Needs.{AreInOrder}

-- In any object, where its signals stand in an order, in which each needs only those before it, they are computed from the settled values
-- as these are.
abbrev pub SettleInOrder : Type 0
SettleInOrder = (sources : List Dataset) (lists : Scope) (outer : Values) (given : Valued) (signals : List Signal) (sets : List DataSet)
    (place : List ℕ → ℕ) → AreInOrder signals sets place
    → next_own sources lists outer (as_given given) signals sets (settled_own sources lists outer given signals sets)
    ≡ settled_own sources lists outer given signals sets

-- in an object inside another, names are read as in one that has the signals of both, the inner ones before the outer ones
abbrev pub InnerFirst : Type 0
InnerFirst = (inner own : Settled) (outer : Values) → values_inside (inner ++ own) outer ≡ values_inside inner (values_inside own outer)
