use Rattle.compiled_rows.proofs.LeaveLemmas.{key_lists_leave}
use Rattle.compiled_rows.proofs.part_laws.key_lists_leave.Goals as goal

pub returns : goal.returns
returns c = key_lists_leave
