use Rattle.compiled_rows.proofs.LeaveLemmas.{drag_lists_leave}
use Rattle.compiled_rows.proofs.part_laws.drag_lists_leave.Goals as goal

pub returns : goal.returns
returns c = drag_lists_leave
