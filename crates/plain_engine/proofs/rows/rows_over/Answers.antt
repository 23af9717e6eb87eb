use Rattle.std.proofs.Common.{◌≡◌, ℕ, Err, List, map, sym, ◌∙◌, subst}
use Rattle.std.proofs.lemmas.List.Elements.{All-nil}
use Rattle.cell_value.specs.State.{dataset_of}
use Rattle.expr_eval.specs.Answers.{Evaluates}
use Rattle.expr_eval.specs.Stores.{values_of_stores}
use Rattle.vega_lists.specs.Inside.{no_rows, AllKeysFit, SetsMayFold}
use Rattle.vega_lists.specs.Products.{no_folds}
use Rattle.vega_copies.specs.Scopes.{Names, names_at_top}
use Rattle.vega_copies.specs.inner.Levels.{parts_over, AreParts}
use Rattle.vega_copies.proofs.ChartLaw.{rules_kept}
use Rattle.vega_charts.specs.inner.Outcomes.{drawn_within}
use Rattle.vega_charts.specs.inner.Topped.{top_of, names_on_top, rows_on_top}
use Rattle.vega_charts.proofs.OutcomeLemmas.{from_top, named_by}
use Rattle.vega_charts.proofs.TopLemmas.{none_are, none_fit, top_kept, top_folds, top_stands}
use Rattle.vega_meaning.specs.UnitRows.{unit_rows}
use Rattle.plain_engine.specs.declared.drawn_row.DrawnRow.{DrawnRow}
use Rattle.plain_engine.specs.inner.Drawn.{IsDrawnOver, StopsDrawing}
use Rattle.plain_engine.specs.inner.Rows.{told, TellsRows}
use Rattle.plain_engine.proofs.EventLemmas.{ok_more}
use Rattle.plain_engine.proofs.RowLemmas.{told_on_top}
use Rattle.plain_engine.proofs.TopLemmas.{stops_named, stops_with}
use Rattle.plain_engine.proofs.rows.rows_over.Goals as goal

pub rows_with-requires-clause-kept : goal.rows_with-requires-clause-kept
rows_with-requires-clause-kept c = rules_kept c.args.g.now c.requires.kept

pub level_with-requires-clause-outer : goal.level_with-requires-clause-outer
level_with-requires-clause-outer c = record { sources_are = c.requires.sources; rows = none_are }

pub level_with-requires-clause-parts : goal.level_with-requires-clause-parts
level_with-requires-clause-parts c = subst AreParts (sym c.new.ensures) (All-nil _)

pub level_with-requires-clause-kept : goal.level_with-requires-clause-kept
level_with-requires-clause-kept c = (top_kept c.args.g.now (rules_kept c.args.g.now c.requires.kept)).sets

pub level_with-requires-clause-folds : goal.level_with-requires-clause-folds
level_with-requires-clause-folds c =
    subst (λ parts. SetsMayFold (parts_over parts no_rows) (top_of c.args.g.now).object.sets)
    (sym c.new.ensures) (top_folds c.args.g.now (rules_kept c.args.g.now c.requires.kept))

pub rows_with-requires-clause-rows : goal.rows_with-requires-clause-rows
rows_with-requires-clause-rows c = c.in-Ok.ensures.rows

pub rows_with-requires-clause-marks : goal.rows_with-requires-clause-marks
rows_with-requires-clause-marks c =
    top_stands c.args.g.now (rules_kept c.args.g.now c.requires.kept) (rows_on_top c.args.sources.now c.in-Ok.level)
    (c.in-Ok.ensures.folds no_folds
    (subst (λ parts. AllKeysFit no_folds (parts_over parts no_rows)) (sym c.new.ensures) none_fit))

pub returns-in-Ok-clause-stops : goal.returns-in-Ok-clause-stops
returns-in-Ok-clause-stops c =
    let sources = map dataset_of c.args.sources.now in
    let g = c.args.g.now in
    let stores = values_of_stores c.args.stores.now in
    subst (StopsDrawing c.rows_with.result) (sym (from_top stores g c.args.params.now sources))
    (stops_with c.rows_with.result (names_at_top stores c.args.params.now sources (top_of g).object) (drawn_within sources g)
    (names_on_top c.args.stores.now c.args.sources.now c.in-Ok.level)
    (sym (named_by stores sources c.new.result c.args.params.now (top_of g).object c.new.ensures) ∙ c.in-Ok.ensures.value) c.rows_with.ensures.stops)

pub returns-in-Ok-clause-rows : goal.returns-in-Ok-clause-rows
returns-in-Ok-clause-rows c =
    let sources = map dataset_of c.args.sources.now in
    let g = c.args.g.now in
    let stores = values_of_stores c.args.stores.now in
    let names = names_on_top c.args.stores.now c.args.sources.now c.in-Ok.level in
    ok_more (TellsRows sources g names)
    (λ (rows : List DrawnRow). IsDrawnOver g stores c.args.params.now sources → (unit : ℕ) → told rows unit ≡ unit_rows g stores c.args.params.now sources unit)
    c.rows_with.result
    (λ rows tells. told_on_top g stores c.args.params.now sources rows names
    (sym (named_by stores sources c.new.result c.args.params.now (top_of g).object c.new.ensures) ∙ c.in-Ok.ensures.value) tells)
    c.rows_with.ensures.rows

pub returns-in-Err-clause-stops : goal.returns-in-Err-clause-stops
returns-in-Err-clause-stops c =
    let sources = map dataset_of c.args.sources.now in
    let g = c.args.g.now in
    let stores = values_of_stores c.args.stores.now in
    subst (StopsDrawing {X = List DrawnRow} (Err c.in-Err.error)) (sym (from_top stores g c.args.params.now sources))
    (stops_named (List DrawnRow) c.in-Err.error (names_at_top stores c.args.params.now sources (top_of g).object) (drawn_within sources g)
    (subst (λ o. Evaluates {X = Names} (Err c.in-Err.error) o) (named_by stores sources c.new.result c.args.params.now (top_of g).object c.new.ensures)
    c.in-Err.ensures.value))
