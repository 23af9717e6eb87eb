use Rattle.compiled_rows.proofs.IdLemmas.{rows_left_read_ids}
use Rattle.compiled_rows.proofs.part_laws.rows_left_read_ids.Goals as goal

pub returns : goal.returns
returns c = rows_left_read_ids
