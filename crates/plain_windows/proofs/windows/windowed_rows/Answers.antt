use Rattle.std.proofs.Common.{◌∙◌, ap, sym, subst, map, Err, Some, option_map}
use Rattle.std.specs.List.{AllZip}
use Rattle.cell_value.specs.declared.state.Keyed.{Keyed}
use Rattle.cell_value.specs.Datum.{datum_of}
use Rattle.expr_eval.specs.Answers.{Evaluates}
use Rattle.expr_eval.proofs.Several.{stops_all, all_more}
use Rattle.plain_rows.specs.Lookups.{with_cells}
use Rattle.plain_rows.proofs.Keys.{small_id}
use Rattle.plain_orders.specs.Partitions.{data_at}
use Rattle.plain_windows.specs.Windows.{window_cells}
use Rattle.plain_windows.specs.inner.Aids.{IsAid}
use Rattle.plain_windows.proofs.WindowLemmas.{listed_in, aids_in, cells_in}
use Rattle.plain_windows.proofs.windows.windowed_rows.Goals as goal

pub windowed_row-requires-clause-id : goal.windowed_row-requires-clause-id
windowed_row-requires-clause-id c =
    small_id c.args.rows.now c.loop-at.at _ c.requires.rows c.loop-at-test.true c.index-rows-at.is

pub windowed_row-requires-clause-listed : goal.windowed_row-requires-clause-listed
windowed_row-requires-clause-listed c =
    listed_in c.args.w.now c.args.rows.now c.args.lists.now c.args.aids.now
    c.args.homes.now c.args.ranks.now c.requires.seen
    c.loop-at.at c.index-rows-at.result c.index-lists-home.result c.as_slice.result.now c.loop-at-test.true c.index-rows-at.is
    c.index-lists-home.is c.as_slice.ensures

pub returns-in-Err : goal.returns-in-Err
returns-in-Err c =
    let row = c.index-rows-at.result in
    let w = c.args.w.now in
    let seen = map datum_of c.args.rows.now in
    stops_all (λ (row : Keyed). option_map (with_cells row) (window_cells w seen (datum_of row))) c.args.rows.now c.loop-at.at row
    c.loop-at-test.true c.index-rows-at.is c.in-Err.error
    (subst (λ o. Evaluates {X = Keyed} (Err c.in-Err.error) (option_map (with_cells row) o))
    (cells_in w c.args.rows.now c.args.lists.now c.args.aids.now c.args.homes.now c.args.ranks.now c.requires.seen
    c.loop-at.at row c.index-lists-home.result c.as_slice.result.now c.loop-at-test.true c.index-rows-at.is
    c.index-lists-home.is c.as_slice.ensures) c.in-Err.ensures)

pub loop-at-preserved : goal.loop-at-preserved
loop-at-preserved c =
    let row = c.index-rows-at.result in
    let w = c.args.w.now in
    let seen = map datum_of c.args.rows.now in
    all_more (λ (row : Keyed). option_map (with_cells row) (window_cells w seen (datum_of row))) c.args.rows.now c.loop-at.at row
    c.loop-at.out c.in-Ok.copy c.loop-at-test.true c.index-rows-at.is c.loop-at.invariant
    (ap (option_map (with_cells row))
    (sym (cells_in w c.args.rows.now c.args.lists.now c.args.aids.now c.args.homes.now c.args.ranks.now c.requires.seen
    c.loop-at.at row c.index-lists-home.result c.as_slice.result.now c.loop-at-test.true c.index-rows-at.is
    c.index-lists-home.is c.as_slice.ensures))
    ∙ c.in-Ok.ensures)
    ∙ ap Some (sym c.in_ok-push-in-Ok.ensures.ok)

pub windowed_row-requires-clause-aids : goal.windowed_row-requires-clause-aids
windowed_row-requires-clause-aids c =
    subst (AllZip (IsAid c.args.w.now.sort (data_at (map datum_of c.args.rows.now) c.as_slice.result.now)) c.args.w.now.ops)
    (sym c.as_slice-in-loop-at.ensures)
    (aids_in c.args.w.now c.args.rows.now c.args.lists.now c.args.aids.now c.args.homes.now c.args.ranks.now
    c.requires.seen c.loop-at.at c.index-rows-at.result c.index-lists-home.result c.as_slice.result.now c.loop-at-test.true
    c.index-rows-at.is c.index-lists-home.is c.as_slice.ensures c.index-aids-home.result c.index-aids-home.is)
