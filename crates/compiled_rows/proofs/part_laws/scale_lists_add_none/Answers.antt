use Rattle.compiled_rows.proofs.LeaveLemmas.{scale_lists_add_none}
use Rattle.compiled_rows.proofs.part_laws.scale_lists_add_none.Goals as goal

pub returns : goal.returns
returns c = scale_lists_add_none
