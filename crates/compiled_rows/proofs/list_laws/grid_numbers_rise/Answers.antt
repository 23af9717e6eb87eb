use Rattle.compiled_rows.proofs.GridLemmas.{grid_numbers_rise}
use Rattle.compiled_rows.proofs.list_laws.grid_numbers_rise.Goals as goal

pub returns : goal.returns
returns c = grid_numbers_rise
