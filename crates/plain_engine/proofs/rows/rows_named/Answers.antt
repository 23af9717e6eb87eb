use Rattle.std.proofs.Common.{ℕ, List, map, false, is_some, Err, sym, ◌∙◌, subst}
use Rattle.std.specs.List.{AllZip}
use Rattle.cell_value.specs.State.{dataset_of}
use Rattle.expr_eval.specs.Answers.{Evaluates}
use Rattle.scene_tree.specs.Outcome.{in_reach}
use Rattle.vega_spec.specs.declared.spec.Group.{out-Group}
use Rattle.vega_spec.specs.declared.spec.VgMark.{VgMark}
use Rattle.vega_copies.specs.declared.made.CopiesMade.{CopiesMade}
use Rattle.vega_copies.specs.Panels.{plots_in_facets}
use Rattle.vega_copies.specs.inner.Levels.{rows_at, names_at}
use Rattle.vega_copies.specs.inner.Made.{levels_behind, OneMade}
use Rattle.vega_copies.specs.inner.Outlined.{marks_in, marks_of}
use Rattle.vega_copies.specs.inner.Standing.{MayStand}
use Rattle.vega_copies.proofs.NumberedPanels.{counted_alike}
use Rattle.vega_charts.specs.Panels.{with_panels}
use Rattle.vega_charts.specs.Scenes.{drawing_over}
use Rattle.vega_charts.specs.inner.Topped.{top_of}
use Rattle.plain_engine.specs.declared.drawn_row.DrawnRow.{DrawnRow}
use Rattle.plain_engine.proofs.TopLemmas.{stops_counted}
use Rattle.plain_engine.proofs.rows.rows_named.Goals as goal

pub made_in-requires-clause-marks : goal.made_in-requires-clause-marks
made_in-requires-clause-marks c =
    subst (MayStand (rows_at c.args.names.now.sources.now c.args.names.now.levels.now)) (sym c.marks_in.ensures) c.requires.marks

pub rows_of_made-requires-clause-marks : goal.rows_of_made-requires-clause-marks
rows_of_made-requires-clause-marks c =
    let names = c.args.names.now in
    let one : VgMark → CopiesMade → Type 0 = OneMade names.stores.now names.sources.now (levels_behind names.levels.now) in
    record {
      stand = c.requires.marks;
      made =
          subst (AllZip one (marks_in (out-Group c.args.g.now.group))) (sym c.as_slice.ensures)
          (subst (λ marks. AllZip one marks c.in-Ok.made) c.marks_in.ensures c.in-Ok.ensures.made);
    }

pub returns-in-Err-clause-stops : goal.returns-in-Err-clause-stops
returns-in-Err-clause-stops c =
    let g = c.args.g.now in
    let sources = map dataset_of c.args.names.now.sources.now in
    let names = names_at c.args.names.now.stores.now c.args.names.now.sources.now c.args.names.now.levels.now in
    let grid = is_some (out-Group g.group).layout in
    stops_counted (List DrawnRow) c.in-Err.error (plots_in_facets sources (top_of g).marks false grid names)
    (λ plots. with_panels plots (in_reach (drawing_over g sources (top_of g) names)))
    (subst (Evaluates {X = ℕ} (Err c.in-Err.error))
    (sym (counted_alike sources (marks_of (marks_in (out-Group g.group))) 0 1 false grid names
    ∙ (λ i. plots_in_facets sources (marks_of (sym c.marks_in.ensures i)) false grid names)))
    (c.in-Err.ensures.stops false grid))
