use Rattle.std.proofs.Common.{Err, map, sym, ◌∙◌, subst}
use Rattle.std.proofs.lemmas.List.Elements.{All-nil}
use Rattle.cell_value.specs.State.{dataset_of}
use Rattle.expr_eval.specs.Answers.{Evaluates}
use Rattle.expr_eval.specs.Stores.{values_of_stores}
use Rattle.vega_lists.specs.Inside.{no_rows, AllKeysFit, SetsMayFold}
use Rattle.vega_lists.specs.Products.{no_folds}
use Rattle.vega_charts.specs.Answers.{Comes}
use Rattle.vega_charts.specs.Charts.{drawing_of}
use Rattle.vega_copies.specs.Scopes.{Names, names_at_top}
use Rattle.vega_copies.specs.inner.Levels.{parts_over, AreParts}
use Rattle.vega_charts.specs.inner.Outcomes.{stopped, drawn_within}
use Rattle.vega_charts.specs.inner.Topped.{top_of, names_on_top, rows_on_top}
use Rattle.vega_charts.proofs.OutcomeLemmas.{from_top, named, not_named, named_by}
use Rattle.vega_charts.proofs.TopLemmas.{none_are, none_fit, top_kept, top_folds, top_stands}
use Rattle.vega_copies.proofs.ChartLaw.{rules_kept}
use Rattle.vega_charts.proofs.charts.drawing_of.Goals as goal

pub drawing_at-requires-clause-kept : goal.drawing_at-requires-clause-kept
drawing_at-requires-clause-kept c = rules_kept c.args.g.now c.requires.kept

pub level_with-requires-clause-outer : goal.level_with-requires-clause-outer
level_with-requires-clause-outer c = record { sources_are = c.requires.sources; rows = none_are }

pub level_with-requires-clause-parts : goal.level_with-requires-clause-parts
level_with-requires-clause-parts c = subst AreParts (sym c.new.ensures) (All-nil _)

pub level_with-requires-clause-kept : goal.level_with-requires-clause-kept
level_with-requires-clause-kept c = (top_kept c.args.g.now (rules_kept c.args.g.now c.requires.kept)).sets

pub level_with-requires-clause-folds : goal.level_with-requires-clause-folds
level_with-requires-clause-folds c =
    subst (λ parts. SetsMayFold (parts_over parts no_rows) (top_of c.args.g.now).object.sets)
    (sym c.new.ensures) (top_folds c.args.g.now (rules_kept c.args.g.now c.requires.kept))

pub drawing_at-requires-clause-rows : goal.drawing_at-requires-clause-rows
drawing_at-requires-clause-rows c = c.in-Ok.ensures.rows

pub drawing_at-requires-clause-marks : goal.drawing_at-requires-clause-marks
drawing_at-requires-clause-marks c =
    top_stands c.args.g.now (rules_kept c.args.g.now c.requires.kept) (rows_on_top c.args.sources.now c.in-Ok.level)
    (c.in-Ok.ensures.folds no_folds
    (subst (λ parts. AllKeysFit no_folds (parts_over parts no_rows)) (sym c.new.ensures) none_fit))

pub returns-in-Ok : goal.returns-in-Ok
returns-in-Ok c =
    let sources = map dataset_of c.args.sources.now in
    let g = c.args.g.now in
    subst (λ o. Comes o c.drawing_at.result) (sym (from_top (values_of_stores c.args.stores.now) g c.args.params.now sources))
    (named c.drawing_at.result (names_at_top (values_of_stores c.args.stores.now) c.args.params.now sources (top_of g).object) (drawn_within sources g)
    (names_on_top c.args.stores.now c.args.sources.now c.in-Ok.level)
    (sym (named_by (values_of_stores c.args.stores.now) sources c.new.result c.args.params.now (top_of g).object c.new.ensures)
    ∙ c.in-Ok.ensures.value) c.drawing_at.ensures)

pub returns-in-Err : goal.returns-in-Err
returns-in-Err c =
    let sources = map dataset_of c.args.sources.now in
    let g = c.args.g.now in
    subst (λ e. Comes (drawing_of g (values_of_stores c.args.stores.now) c.args.params.now sources) (Err e)) (sym c.stopped.ensures)
    (subst (λ o. Comes o (Err (stopped c.in-Err.error))) (sym (from_top (values_of_stores c.args.stores.now) g c.args.params.now sources))
    (not_named c.in-Err.error (names_at_top (values_of_stores c.args.stores.now) c.args.params.now sources (top_of g).object) (drawn_within sources g)
    (subst (λ o. Evaluates {X = Names} (Err c.in-Err.error) o)
    (named_by (values_of_stores c.args.stores.now) sources c.new.result c.args.params.now (top_of g).object c.new.ensures) c.in-Err.ensures.value)))
