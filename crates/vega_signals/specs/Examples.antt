-- Signals at work.
use Rattle.std.specs.Prelude.{◌≡◌, ℕ, ◌*◌, ℤ, pos, Option, Some, None, List, [], ◌∷◌, codes, refl}
use Rattle.fixed_num.specs.Number.{floored, ceiled, floor_quotient}
use Rattle.cell_value.specs.declared.cell.Cell.TheVariants.{Null, Number, Pair}
use Rattle.cell_value.specs.State.{Dataset}
use Rattle.cell_value.specs.Datum.{Datum, datum_with}
use Rattle.expr_eval.specs.Plain.{null_row}
use Rattle.vega_spec.specs.declared.data.DataSet.{DataSet}
use Rattle.vega_spec.specs.declared.signals.Signal.{Signal}
use Rattle.vega_spec.specs.declared.spec.Group.{Group, Group-F}
use Rattle.vega_spec.specs.declared.spec.VgMark.{VgMark}
use Rattle.vega_spec.specs.declared.transforms.BinExtent.TheVariants as bounds
use Rattle.vega_spec.specs.declared.transforms.Transform.{Transform}
use Rattle.vega_spec.specs.declared.transforms.Transform.TheVariants as vega
use Rattle.expr_eval.specs.Plain.{no_values}
use Rattle.vega_signals.specs.Signals.{signal_values}

abbrev a_set : List ℕ → Option (List ℕ) → List Transform → DataSet
a_set name source transforms = record { name = name; values = None; url = None; format = None; source = source; transform = Some transforms }

abbrev a_top : List Signal → List DataSet → Group-F Group VgMark
a_top signals sets = record {
  data_ = Some sets;
  signals = Some signals;
  scales = None;
  layout = None;
  marks = None;
  axes = None;
  legends = None;
  title = None;
}

-- a row with a whole number under `v`
abbrev a_row : ℕ → Datum
a_row n = datum_with (codes "v") (Number (pos (n * 1000000))) (record { key = record { id = n; branch = 0 }; cell = null_row })

-- the rows 1, 2 and 3 under the name `t`
abbrev three_rows : List Dataset
three_rows = record { name = codes "t"; rows = a_row 1 ∷ a_row 2 ∷ a_row 3 ∷ [] } ∷ []

-- two more rows under the name `s`
abbrev five_rows : List Dataset
five_rows = record { name = codes "s"; rows = a_row 2 ∷ a_row 4 ∷ [] } ∷ three_rows

abbrev the_extent : List ℕ → List ℕ → Transform
the_extent field signal = vega.Extent record { field = field; signal = signal }

-- the bins of `v` over a signal, with their ends under `end`
abbrev bins_over : List ℕ → Transform
bins_over signal = vega.Bin record { field = codes "v"; extent = bounds.Signal signal; maxbins = None; step = None; as_ = Some (codes "start", codes "end") }

-- so many tenths
abbrev tenths : ℕ → ℤ
tenths n = pos (n * 100000)

an_extent : signal_values no_values (a_top [] (a_set (codes "t") None (the_extent (codes "v") (codes "x") ∷ []) ∷ [])) three_rows []
    ≡ Some ((codes "x", Pair (tenths 10) (tenths 30)) ∷ [])
an_extent = refl

an_extent_over_no_rows : signal_values no_values (a_top [] (a_set (codes "u") None (the_extent (codes "v") (codes "x") ∷ []) ∷ [])) three_rows []
    ≡ Some ((codes "x", Null) ∷ [])
an_extent_over_no_rows = refl

bins_over_the_signal_of_an_extent :
    signal_values no_values (a_top [] (
    a_set (codes "t") None (the_extent (codes "v") (codes "x") ∷ bins_over (codes "x") ∷ the_extent (codes "end") (codes "y") ∷ []) ∷ [])) three_rows []
    ≡ Some ((codes "x", Pair (tenths 10) (tenths 30)) ∷ (codes "y", Pair (tenths 12) (tenths 30)) ∷ [])
unfolding floored ceiled floor_quotient
bins_over_the_signal_of_an_extent = refl

-- the bins of each data set reach over the numbers of the other
two_that_need_each_other :
    signal_values no_values (a_top [] (
    a_set (codes "s") None []
    ∷ a_set (codes "t") None (the_extent (codes "v") (codes "x") ∷ bins_over (codes "y") ∷ the_extent (codes "end") (codes "z") ∷ [])
    ∷ a_set (codes "u") (Some (codes "s")) (the_extent (codes "v") (codes "y") ∷ bins_over (codes "x") ∷ the_extent (codes "end") (codes "w") ∷ [])
    ∷ [])) five_rows []
    ≡ Some (
    (codes "x", Pair (tenths 10) (tenths 30)) ∷ (codes "z", Pair (tenths 22) (tenths 32)) ∷ (codes "y", Pair (tenths 20) (tenths 40))
    ∷ (codes "w", Pair (tenths 22) (tenths 22)) ∷ [])
unfolding floored ceiled floor_quotient
two_that_need_each_other = refl
