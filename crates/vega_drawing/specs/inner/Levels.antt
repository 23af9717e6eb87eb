-- What levels of signals stand for.
use Rattle.std.specs.Prelude.{ℕ, Option, List, [], ◌∷◌, find}
use Rattle.std.specs.Str.{bytes_eq}
use Rattle.std.specs.Borrow.{Bor}
use Rattle.cell_value.specs.declared.cell.Cell.{Cell}
use Rattle.cell_value.specs.declared.state.StoreOf.{StoreOf}
use Rattle.expr_eval.specs.Stores.{values_of_stores}
use Rattle.expr_eval.specs.Values.{Values}
use Rattle.vega_signals.specs.Extents.{Settled}
use Rattle.vega_signals.specs.Settling.{values_inside}

-- the first signal of a name
abbrev pub signal_named : Settled → List ℕ → Option (List ℕ × Option Cell)
signal_named signals name = find (λ (signal : List ℕ × Option Cell). bytes_eq signal.0 name) signals

-- the values of signals where these are the levels, the inner before the outer, and what is read of these stores of selections
abbrev pub values_over : List StoreOf → List (Bor Settled) → Values
values_over stores [] = values_of_stores stores
values_over stores (signals ∷ outer) = values_inside signals.now (values_over stores outer)
