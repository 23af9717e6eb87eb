use Rattle.std.proofs.Common.{◌≡◌, Some, get_or, ap, sym, subst, ◌∙◌}
use Rattle.std.specs.Ordering.{nat_cmp}
use Rattle.std.specs.Cmp.Lexicographic.{slice_cmp, nat_list_cmp_total}
use Rattle.cell_value.specs.inner.Place.{IsAt, IsGap}
use Rattle.cell_value.proofs.Place.{get_seen, find_at, find_gap}
use Rattle.cell_value.proofs.row.Row.get.Goals as goal

pub returns-in-Ok : goal.returns-in-Ok
returns-in-Ok c =
    let cells = c.self.inside.cells.value.items in
    let seen : c.as_slice-cells.result.now ≡ cells = c.as_slice-cells.ensures.value ∙ ap (λ v. v.items) c.as_ref.ensures in
    let is_at = subst (λ l. IsAt (slice_cmp nat_cmp) l c.args.name.now c.in-Ok.at) seen c.in-Ok.ensures.found in
    ap (λ l. Some (get_or l c.in-Ok.at c.index-cells-at.result).1) seen
    ∙ sym (find_at nat_list_cmp_total cells c.args.name.now c.in-Ok.at c.self.invariant is_at c.index-cells-at.result)
    ∙ sym (get_seen _ cells c.self.invariant _ c.self.view_is c.args.name.now)

pub returns-in-Err : goal.returns-in-Err
returns-in-Err c =
    let cells = c.self.inside.cells.value.items in
    let seen : c.as_slice-cells.result.now ≡ cells = c.as_slice-cells.ensures.value ∙ ap (λ v. v.items) c.as_ref.ensures in
    let is_gap = subst (λ l. IsGap (slice_cmp nat_cmp) l c.args.name.now c.in-Err.field-0) seen c.in-Err.ensures.absent in
    sym (find_gap nat_list_cmp_total cells c.args.name.now c.in-Err.field-0 is_gap)
    ∙ sym (get_seen _ cells c.self.invariant _ c.self.view_is c.args.name.now)
