use Rattle.std.proofs.Common.{◌≡◌, ap, ◌∙◌}
use Rattle.std.specs.Ordering.{nat_cmp}
use Rattle.std.specs.Cmp.Lexicographic.{slice_cmp, nat_list_cmp_total}
use Rattle.std.specs.FinMap.{insert, put}
use Rattle.cell_value.proofs.Place.{from_put}
use Rattle.cell_value.proofs.row.Row.set_shared.Goals as goal

cells_are : (c : goal.After-drop-self-inside)
    → c.in_ok-self-inside.field-0.value.items ≡ put (slice_cmp nat_cmp) c.args.name c.args.c c.self.inside.cells.value.items
cells_are c =
    ap (λ v. v.items) c.in_ok-self-inside.ensures.ok ∙ c.in_ok-cells.ensures
    ∙ ap (put (slice_cmp nat_cmp) c.args.name c.args.c) (c.as_slice.ensures.value ∙ ap (λ v. v.items) c.as_ref.ensures)

pub invariant_of-self : goal.invariant_of-self
invariant_of-self c =
    (from_put nat_list_cmp_total c.self.inside.cells.value.items _ c.args.name c.args.c c.self.invariant (cells_are c)).0

pub returns-clause-ok : goal.returns-clause-ok
returns-clause-ok c =
    (from_put nat_list_cmp_total c.self.inside.cells.value.items _ c.args.name c.args.c c.self.invariant (cells_are c)).1
    ∙ ap (λ m. insert m c.args.name c.args.c) c.self.view_is
