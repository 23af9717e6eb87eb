use Rattle.compiled_rows.proofs.ChoiceLemmas.{first_cells_are_these}
use Rattle.compiled_rows.proofs.part_laws.first_cells_are_these.Goals as goal

pub returns : goal.returns
returns c = first_cells_are_these
