use Rattle.std.proofs.Common.{◌++◌, map, drop, refl}
use Rattle.std.proofs.lemmas.List.{drop_all}
use Rattle.mark_encode.specs.Orders.{data_of}
use Rattle.plain_engine.specs.inner.Rows.{entries_of_rows, seen}
use Rattle.plain_engine.proofs.RowLemmas.{small_at, row_pushed, rows_ended}
use Rattle.plain_engine.proofs.rows.push_rows.Goals as goal

pub loop-row-init : goal.loop-row-init
loop-row-init c = refl

pub push_row-requires : goal.push_row-requires
push_row-requires c = small_at c.args.rows.now c.loop-row.row-index c.row-item.result c.requires.small_ids c.loop-row-test.true c.row-item.is

pub loop-row-preserved : goal.loop-row-preserved
loop-row-preserved c =
    row_pushed c.args.unit c.args.rows.now c.loop-row.row-index c.row-item.result (map seen c.loop-row.out) (map seen c.push_row.new.out)
    (map seen c.args.out.now ++ entries_of_rows c.args.unit (data_of c.args.rows.now)) c.loop-row-test.true c.row-item.is c.loop-row.invariant
    c.in_ok-push_row.ensures

pub returns : goal.returns
returns c =
    rows_ended c.args.unit (drop c.loop-row.row-index c.args.rows.now) (map seen c.loop-row.out)
    (map seen c.args.out.now ++ entries_of_rows c.args.unit (data_of c.args.rows.now))
    (drop_all c.loop-row.row-index c.args.rows.now c.loop-row-test.false) c.loop-row.invariant
