-- Codes past the table.
use Rattle.std.proofs.Common.{◌≡◌, ℕ, ◌<◌, List, Option, Some, ap, arith}
use Rattle.std.specs.Option.{option_map_or}
use Rattle.std.proofs.lemmas.Option.{slice_get_past}
use Rattle.cell_value.specs.declared.cell.Cell.{Cell}
use Rattle.cell_value.specs.declared.cell.Cell.TheVariants.{Null}
use Rattle.expr_eval.specs.Table.{builtin_table, builtin}

-- no builtin has a code past the table
pub no_builtin : (code : ℕ) (args : List Cell) → 38 < code → builtin code args ≡ Some Null
unfolding builtin_table
no_builtin code args h =
    ap (λ (entry : Option (List ℕ × (List Cell → Option Cell))). option_map_or (λ e. e.1 args) entry (Some Null))
    (slice_get_past builtin_table code (omega arith))
