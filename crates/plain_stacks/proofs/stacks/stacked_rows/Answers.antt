use Rattle.std.proofs.Common.{◌≡◌, ◌∙◌, ap, sym, subst, map, get_or, Option, Err, Some, option_map}
use Rattle.cell_value.specs.Datum.{datum_of}
use Rattle.cell_value.specs.declared.state.Keyed.{Keyed}
use Rattle.expr_eval.specs.Answers.{Evaluates}
use Rattle.expr_eval.proofs.Several.{stops_all, all_more}
use Rattle.plain_rows.specs.Lookups.{with_cells}
use Rattle.plain_rows.proofs.Keys.{small_id}
use Rattle.plain_stacks.specs.declared.sums.Span.{Span}
use Rattle.plain_stacks.specs.Stacks.{row_span_with, span_cells}
use Rattle.plain_stacks.specs.inner.Sums.{span_by}
use Rattle.plain_stacks.proofs.RowLemmas.{span_there, rank_there}
use Rattle.plain_stacks.proofs.stacks.stacked_rows.Goals as goal

pub stacked_row-requires-clause-id : goal.stacked_row-requires-clause-id
stacked_row-requires-clause-id c = small_id c.args.rows.now c.loop-at.at _ c.requires.rows c.loop-at-test.true c.index-rows-at.is

pub stacked_row-requires-clause-rank : goal.stacked_row-requires-clause-rank
stacked_row-requires-clause-rank c =
    rank_there c.args.s.now c.args.rows.now c.args.homes.now c.args.ranks.now c.args.sums.now c.args.greatest.now c.requires.summed
    c.loop-at.at c.index-rows-at.result c.index-sums-homes.result c.loop-at-test.true c.index-rows-at.is c.index-sums-homes.is

pub returns-in-Err : goal.returns-in-Err
returns-in-Err c =
    let row = c.index-rows-at.result in
    let s = c.args.s.now in
    let with_span : Option Span → Option Keyed = option_map (λ span. with_cells row (span_cells s span)) in
    let there : span_by s (datum_of row) c.index-sums-homes.result (get_or c.args.ranks.now c.loop-at.at 0) c.args.greatest.now
    ≡ row_span_with s c.args.greatest.now (map datum_of c.args.rows.now) (datum_of row) =
    span_there s c.args.rows.now c.args.homes.now c.args.ranks.now c.args.sums.now c.args.greatest.now c.requires.summed
    c.loop-at.at row c.index-sums-homes.result c.loop-at-test.true c.index-rows-at.is c.index-sums-homes.is in
    stops_all (λ (row : Keyed). option_map (λ span. with_cells row (span_cells s span))
    (row_span_with s c.args.greatest.now (map datum_of c.args.rows.now) (datum_of row)))
    c.args.rows.now c.loop-at.at row c.loop-at-test.true c.index-rows-at.is c.in-Err.error
    (subst (λ o. Evaluates {X = Keyed} (Err c.in-Err.error) (with_span o)) there c.in-Err.ensures)

pub loop-at-preserved : goal.loop-at-preserved
loop-at-preserved c =
    let row = c.index-rows-at.result in
    let s = c.args.s.now in
    let with_span : Option Span → Option Keyed = option_map (λ span. with_cells row (span_cells s span)) in
    let there : span_by s (datum_of row) c.index-sums-homes.result (get_or c.args.ranks.now c.loop-at.at 0) c.args.greatest.now
    ≡ row_span_with s c.args.greatest.now (map datum_of c.args.rows.now) (datum_of row) =
    span_there s c.args.rows.now c.args.homes.now c.args.ranks.now c.args.sums.now c.args.greatest.now c.requires.summed
    c.loop-at.at row c.index-sums-homes.result c.loop-at-test.true c.index-rows-at.is c.index-sums-homes.is in
    all_more (λ (row : Keyed). option_map (λ span. with_cells row (span_cells s span))
    (row_span_with s c.args.greatest.now (map datum_of c.args.rows.now) (datum_of row)))
    c.args.rows.now c.loop-at.at row c.loop-at.out c.in-Ok.copy c.loop-at-test.true c.index-rows-at.is c.loop-at.invariant
    (ap with_span (sym there) ∙ c.in-Ok.ensures)
    ∙ ap Some (sym c.in_ok-push-in-Ok.ensures.ok)
