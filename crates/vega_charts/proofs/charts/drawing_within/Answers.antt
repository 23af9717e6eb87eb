use Rattle.std.proofs.Common.{◌-◌, ◌^◌, min, false, is_some, Err, map, sym, ap, ◌∙◌, subst}
use Rattle.std.specs.Option.{option_map}
use Rattle.cell_value.specs.State.{dataset_of}
use Rattle.expr_eval.specs.Answers.{Evaluates}
use Rattle.scene_tree.specs.Outcome.{in_reach}
use Rattle.vega_spec.specs.declared.spec.Group.{out-Group}
use Rattle.vega_charts.specs.Answers.{Comes}
use Rattle.vega_copies.specs.Panels.{plots_in_facets}
use Rattle.vega_charts.specs.Scenes.{drawing_over}
use Rattle.vega_copies.specs.inner.Levels.{rows_at, names_at}
use Rattle.vega_charts.specs.inner.Outcomes.{drawn_within}
use Rattle.vega_copies.specs.inner.Outlined.{marks_in, marks_of}
use Rattle.vega_copies.specs.inner.Standing.{MayStand}
use Rattle.vega_charts.specs.inner.Topped.{top_of}
use Rattle.vega_copies.proofs.NumberedPanels.{counted_alike}
use Rattle.vega_charts.proofs.OutcomeLemmas.{after_count, is_counted, not_counted}
use Rattle.vega_charts.proofs.charts.drawing_within.Goals as goal

pub count_plots-requires-clause-marks : goal.count_plots-requires-clause-marks
count_plots-requires-clause-marks c =
    subst (MayStand (rows_at c.args.names.sources.now c.args.names.levels.now)) (sym c.marks_in.ensures) c.requires.marks

pub drawing_counted-requires-clause-counted : goal.drawing_counted-requires-clause-counted
drawing_counted-requires-clause-counted c =
    let g = c.args.g.now in
    let sources = map dataset_of c.args.names.sources.now in
    let names = names_at c.args.names.stores.now c.args.names.sources.now c.args.names.levels.now in
    is_counted (plots_in_facets sources (marks_of (marks_in (out-Group g.group))) false (is_some (out-Group g.group).layout) names) c.in-Ok.plots
    ((λ i. option_map (λ n. min n (2 ^ 64 - 1)) (plots_in_facets sources (marks_of (sym c.marks_in.ensures i)) false (sym c.is_some.ensures i) names))
    ∙ c.in-Ok.ensures)

pub returns-in-Ok : goal.returns-in-Ok
returns-in-Ok c =
    let g = c.args.g.now in
    let sources = map dataset_of c.args.names.sources.now in
    let names = names_at c.args.names.stores.now c.args.names.sources.now c.args.names.levels.now in
    after_count (in_reach (drawing_over g sources (top_of g) names))
    (plots_in_facets sources (top_of g).marks false (is_some (top_of g).object.layout) names) c.in-Ok.plots c.drawing_counted.result
    (ap (option_map (λ n. min n (2 ^ 64 - 1))) (counted_alike sources (marks_of (marks_in (out-Group g.group))) 0 1 false _ names)
    ∙ (λ i. option_map (λ n. min n (2 ^ 64 - 1)) (plots_in_facets sources (marks_of (sym c.marks_in.ensures i)) false (sym c.is_some.ensures i) names))
    ∙ c.in-Ok.ensures)
    c.drawing_counted.ensures

pub returns-in-Err : goal.returns-in-Err
returns-in-Err c =
    let g = c.args.g.now in
    let sources = map dataset_of c.args.names.sources.now in
    let names = names_at c.args.names.stores.now c.args.names.sources.now c.args.names.levels.now in
    subst (λ e. Comes (drawn_within sources g names) (Err e)) (sym c.stopped.ensures)
    (not_counted (in_reach (drawing_over g sources (top_of g) names))
    (plots_in_facets sources (top_of g).marks false (is_some (top_of g).object.layout) names) c.in-Err.error
    (subst (Evaluates (Err c.in-Err.error))
    (sym (ap (option_map (λ n. min n (2 ^ 64 - 1))) (counted_alike sources (marks_of (marks_in (out-Group g.group))) 0 1 false _ names)
    ∙ (λ i. option_map (λ n. min n (2 ^ 64 - 1)) (plots_in_facets sources (marks_of (sym c.marks_in.ensures i)) false (sym c.is_some.ensures i) names))))
    c.in-Err.ensures))
