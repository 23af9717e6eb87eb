use Rattle.std.proofs.Common.{map, subst}
use Rattle.cell_value.specs.Datum.{datum_of}
use Rattle.plain_windows.specs.inner.Aids.{AreAids}
use Rattle.plain_windows.proofs.AidLemmas.{zip_more}
use Rattle.plain_windows.proofs.aids.all_aids.Goals as goal

pub loop-list-preserved : goal.loop-list-preserved
loop-list-preserved c =
    let aided = AreAids c.args.w.now (map datum_of c.args.rows.now) in
    let own = c.in_ok-list_aids.field-0 in
    zip_more aided c.args.lists.now c.loop-list.list-index c.list-item.result
    c.loop-list.aids c.push.new.self own c.loop-list-test.true c.list-item.is c.loop-list.invariant
    (subst (λ list. aided list own) c.as_slice.ensures c.in_ok-list_aids.ensures)
    c.in_ok-push.ensures.ok
