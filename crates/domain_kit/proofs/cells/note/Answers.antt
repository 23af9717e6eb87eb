use Rattle.std.proofs.Common.{rules, ◌≡◌, true}
use Rattle.std.specs.BTreeSet.{contains}
use Rattle.cell_value.specs.Cell.{cell_cmp}
use Rattle.cell_value.specs.inner.CellOrder.{same_cells_tell}
use Rattle.domain_kit.proofs.CellLemmas.{seen_one, seen_already}
use Rattle.domain_kit.proofs.cells.note.Goals as goal

pub returns-then-contains-clause-seen : goal.returns-then-contains-clause-seen
returns-then-contains-clause-seen c q =
    let seen : contains cell_cmp c.args.seen.now c.args.cell.now ≡ true = search rules in
    seen_already c.args.seen.now c.args.cell.now q (λ a b e. (same_cells_tell a b).0 e) seen

pub returns-clause-seen : goal.returns-clause-seen
returns-clause-seen c q =
    seen_one c.args.seen.now c.insert.new.self c.in_ok-copy-2.field-0 c.args.cell.now q
    c.in_ok-copy-2.ensures c.in_ok-insert.ensures.updates
