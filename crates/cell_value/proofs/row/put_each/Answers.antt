use Rattle.std.specs.Vec.Iter.{into_iter_items}
use Rattle.cell_value.proofs.RowLemmas.{one_put}
use Rattle.cell_value.proofs.row.put_each.Goals as goal

pub loop-name-preserved : goal.loop-name-preserved
loop-name-preserved c =
    one_put c.loop-name.cells.items c.put.new.cells.items c.in-Some.name c.in-Some.cell (into_iter_items c.loop-name.name-iterator)
    (into_iter_items c.next.new.self) _ c.loop-name.invariant c.in_ok-put.ensures.ok c.in-Some.ensures.steps.0
