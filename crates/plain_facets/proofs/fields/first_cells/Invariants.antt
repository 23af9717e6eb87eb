use Rattle.std.proofs.Common.{◌≡◌, ◌++◌, map, drop, unwrap_or}
use Rattle.std.specs.Prelude.{slice_get}
use Rattle.cell_value.specs.declared.cell.Cell.TheVariants.{Null}
use Rattle.plain_facets.proofs.fields.first_cells.Given as goal

abbrev pub invariant-loop-key : goal.invariant-loop-key
invariant-loop-key l =
    l.cells ++ map (λ key. unwrap_or (slice_get key 0) Null) (drop l.key-index l.keys) ≡ map (λ key. unwrap_or (slice_get key 0) Null) l.keys
