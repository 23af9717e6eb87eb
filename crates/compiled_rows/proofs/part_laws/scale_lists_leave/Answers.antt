use Rattle.compiled_rows.proofs.LeaveLemmas.{scale_lists_leave}
use Rattle.compiled_rows.proofs.part_laws.scale_lists_leave.Goals as goal

pub returns : goal.returns
returns c = scale_lists_leave
