use Rattle.std.proofs.Common.{◌∙◌, ap, sym, Some, map, get_or, zip, take_all, arith}
use Rattle.std.proofs.lemmas.Slice.Zip.{AllZip-long}
use Rattle.fixed_num.specs.Ranges.{all_found}
use Rattle.cell_value.specs.Datum.{datum_of}
use Rattle.expr_eval.proofs.Several.{stops_all, all_more}
use Rattle.plain_orders.specs.Partitions.{datum_at, data_at}
use Rattle.plain_windows.specs.inner.Aids.{IsAid}
use Rattle.plain_windows.specs.inner.Views.{part, view_with, named_by}
use Rattle.plain_windows.proofs.AidLemmas.{zip_there}
use Rattle.plain_windows.proofs.WindowLemmas.{op_there, zip_within, zip_short}
use Rattle.plain_windows.proofs.windows.named_cells.Goals as goal

pub returns-in-Err : goal.returns-in-Err
returns-in-Err c =
    let ops = c.args.ops.now in
    let params = c.args.params.now in
    let all = data_at (map datum_of c.args.rows.now) c.args.places.now in
    let row = datum_at (map datum_of c.args.rows.now) (get_or c.args.places.now c.args.rank 0) in
    stops_all (named_by (view_with c.args.sort.now all row c.args.rank (part c.args.frame all))) (zip ops params) c.loop-at.at
    (c.index-ops-at.result, get_or params c.loop-at.at 0)
    (zip_within ops params c.loop-at.at c.loop-at-test.true c.requires.params)
    (op_there ops params c.loop-at.at c.index-ops-at.result c.loop-at-test.true c.requires.params c.index-ops-at.is)
    c.in-Err.error c.in-Err.ensures

pub loop-at-preserved : goal.loop-at-preserved
loop-at-preserved c =
    let ops = c.args.ops.now in
    let params = c.args.params.now in
    let all = data_at (map datum_of c.args.rows.now) c.args.places.now in
    let row = datum_at (map datum_of c.args.rows.now) (get_or c.args.places.now c.args.rank 0) in
    all_more (named_by (view_with c.args.sort.now all row c.args.rank (part c.args.frame all))) (zip ops params) c.loop-at.at
    (c.index-ops-at.result, get_or params c.loop-at.at 0) c.loop-at.given c.in-Ok.cell
    (zip_within ops params c.loop-at.at c.loop-at-test.true c.requires.params)
    (op_there ops params c.loop-at.at c.index-ops-at.result c.loop-at-test.true c.requires.params c.index-ops-at.is)
    c.loop-at.invariant c.in-Ok.ensures
    ∙ ap Some (sym c.in_ok-push-in-Ok.ensures.ok)

pub returns : goal.returns
returns c =
    let ops = c.args.ops.now in
    let params = c.args.params.now in
    let all = data_at (map datum_of c.args.rows.now) c.args.places.now in
    let row = datum_at (map datum_of c.args.rows.now) (get_or c.args.places.now c.args.rank 0) in
    ap (λ l. all_found (map (named_by (view_with c.args.sort.now all row c.args.rank (part c.args.frame all))) l))
    (sym (take_all c.loop-at.at (zip ops params) (zip_short ops params c.loop-at.at (omega (arith, c.loop-at-test.false)))))
    ∙ c.loop-at.invariant

pub bounds-aids-at : goal.bounds-aids-at
bounds-aids-at c =
    let all = data_at (map datum_of c.args.rows.now) c.args.places.now in
    omega (arith, c.loop-at-test.true, AllZip-long (IsAid c.args.sort.now all) c.args.ops.now c.args.aids.now c.requires.aids)

pub named_cell-requires-clause-aid : goal.named_cell-requires-clause-aid
named_cell-requires-clause-aid c =
    let all = data_at (map datum_of c.args.rows.now) c.args.places.now in
    zip_there (IsAid c.args.sort.now all) c.args.ops.now c.args.aids.now c.loop-at.at c.index-ops-at.result c.index-aids-at.result c.requires.aids
    c.loop-at-test.true c.index-ops-at.is c.index-aids-at.is
