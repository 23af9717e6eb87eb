use Rattle.std.proofs.Common.{subst, ◌∙◌}
use Rattle.std.specs.Ordering.{nat_cmp}
use Rattle.std.specs.Cmp.Lexicographic.{slice_cmp, nat_list_cmp_total}
use Rattle.std.specs.FinMap.{slice_cmp-IsAntisymmetric, nat_cmp-IsAntisymmetric}
use Rattle.cell_value.specs.inner.Place.{IsAt, IsGap}
use Rattle.cell_value.proofs.Place.{put_at, put_gap}
use Rattle.cell_value.proofs.row.put.Goals as goal

pub returns-in-Ok-clause-ok : goal.returns-in-Ok-clause-ok
returns-in-Ok-clause-ok c =
    let is_at = subst (λ l. IsAt (slice_cmp nat_cmp) l c.args.name c.in-Ok.at) c.deref.ensures.value
    (subst (λ n. IsAt (slice_cmp nat_cmp) c.deref.result.now n c.in-Ok.at) c.as_str.ensures c.in-Ok.ensures.found) in
    c.replace.ensures ∙ put_at nat_list_cmp_total (slice_cmp-IsAntisymmetric nat_cmp-IsAntisymmetric) c.args.cells.now.items c.args.name
    c.args.c c.in-Ok.at c.requires is_at

pub returns-in_ok-insert-in-Err-clause-ok : goal.returns-in_ok-insert-in-Err-clause-ok
returns-in_ok-insert-in-Err-clause-ok c =
    let is_gap = subst (λ l. IsGap (slice_cmp nat_cmp) l c.args.name c.in-Err.at) c.deref.ensures.value
    (subst (λ n. IsGap (slice_cmp nat_cmp) c.deref.result.now n c.in-Err.at) c.as_str.ensures c.in-Err.ensures.absent) in
    c.in_ok-insert-in-Err.ensures.items ∙ put_gap nat_list_cmp_total c.args.cells.now.items c.args.name c.args.c c.in-Err.at is_gap
