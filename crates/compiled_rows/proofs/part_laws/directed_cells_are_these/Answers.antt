use Rattle.compiled_rows.proofs.ChoiceLemmas.{directed_cells_are_these}
use Rattle.compiled_rows.proofs.part_laws.directed_cells_are_these.Goals as goal

pub returns : goal.returns
returns c = directed_cells_are_these
