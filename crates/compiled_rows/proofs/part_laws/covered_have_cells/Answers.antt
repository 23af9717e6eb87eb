use Rattle.compiled_rows.proofs.ChoiceLemmas.{covered_have_cells}
use Rattle.compiled_rows.proofs.part_laws.covered_have_cells.Goals as goal

pub returns : goal.returns
returns c = covered_have_cells
