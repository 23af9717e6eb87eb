use Rattle.std.proofs.Common.{◌≡◌, length}
use Rattle.cell_value.specs.Cell.{cell_cmp}
use Rattle.tick_kit.specs.Domains.{ascending}
use Rattle.domain_kit.proofs.CellLemmas.{placed_all}
use Rattle.domain_kit.proofs.cells.set_of.Given as goal

abbrev pub invariant-loop-cell : goal.invariant-loop-cell
invariant-loop-cell l = placed_all l.left l.found.keys ≡ ascending cell_cmp l.fn.cells

abbrev pub decreases-loop-cell : goal.decreases-loop-cell
decreases-loop-cell l = length l.left
