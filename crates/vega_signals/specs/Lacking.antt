-- Which data sets mention a signal that has no value.
use Rattle.std.specs.Prelude.{◌≡◌, refl, ℕ, Bool, true, false, None, List, [], ◌∷◌, is_none, codes}
use Rattle.std.specs.List.{list_any}
use Rattle.expr_eval.specs.Plain.{no_values}
use Rattle.expr_eval.specs.Values.{Values}
use Rattle.vega_spec.specs.declared.data.DataSet.{DataSet}
use Rattle.vega_spec.specs.declared.transforms.BinExtent.TheVariants as bounds
use Rattle.vega_spec.specs.declared.transforms.Transform.{Transform}
use Rattle.vega_spec.specs.declared.transforms.Transform.TheVariants as vega
use Rattle.vega_lists.specs.Transforms.{transforms_of}
use Rattle.vega_signals.specs.Needs.{no_reads, transform_reads}
use Rattle.vega_signals.specs.Settling.{values_inside}

-- whether a name has no value: its computation is out of range
abbrev pub lacks : Values → List ℕ → Bool
lacks values name = is_none (values.value name)

-- whether a transform mentions such a signal, evaluated there or not; a store that it tests or counts is none
abbrev pub transform_lacks : Values → Transform → Bool
transform_lacks values t = list_any (lacks values) (transform_reads no_reads t)

-- whether a transform of a data set does
abbrev pub set_lacks : Values → DataSet → Bool
set_lacks values set = list_any (transform_lacks values) (transforms_of set)

-- The rules at work.

-- bins that reach over a signal
abbrev bins_over : List ℕ → Transform
bins_over name = vega.Bin record { field = codes "v"; extent = bounds.Signal name; maxbins = None; step = None; as_ = None }

bins_over_a_signal_without_value : (transform_lacks (values_inside ((codes "k", None) ∷ []) no_values) (bins_over (codes "k")) ≡ true)
    × (transform_lacks (values_inside ((codes "k", None) ∷ []) no_values) (bins_over (codes "j")) ≡ false)
bins_over_a_signal_without_value = (refl, refl)
