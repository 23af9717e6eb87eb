use Rattle.compiled_rows.proofs.IdLemmas.{steps_read_ids}
use Rattle.compiled_rows.proofs.part_laws.steps_read_ids.Goals as goal

pub returns : goal.returns
returns c = steps_read_ids
