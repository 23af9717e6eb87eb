use Rattle.std.proofs.Common.{ap, ◌∙◌}
use Rattle.vl_compose.specs.inner.Rows.{row_at}
use Rattle.vl_compose.proofs.GroupLemmas.{row_behind}
use Rattle.vl_compose.proofs.groups.grow.Goals as goal

pub loop-alloc-preserved : goal.loop-alloc-preserved
loop-alloc-preserved c = λ h. ap (λ rs. row_at rs h) c.in_ok-push_row.ensures.row ∙ row_behind _ h ∙ c.loop-alloc.invariant h
