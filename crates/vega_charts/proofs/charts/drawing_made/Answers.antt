use Rattle.std.proofs.Common.{ℕ, map, false, is_some, Err, sym, subst}
use Rattle.std.specs.List.{AllZip}
use Rattle.cell_value.specs.State.{dataset_of}
use Rattle.expr_eval.specs.Answers.{Evaluates}
use Rattle.vega_spec.specs.declared.spec.Group.{out-Group}
use Rattle.vega_spec.specs.declared.spec.VgMark.{VgMark}
use Rattle.vega_copies.specs.declared.made.CopiesMade.{CopiesMade}
use Rattle.vega_copies.specs.Panels.{plots_in_facets}
use Rattle.vega_charts.specs.Scenes.{drawing_over}
use Rattle.vega_copies.specs.inner.Levels.{rows_at, names_at}
use Rattle.vega_copies.specs.inner.Made.{levels_behind, OneMade}
use Rattle.vega_copies.specs.inner.Outlined.{marks_in, marks_of}
use Rattle.vega_copies.specs.inner.Standing.{MayStand}
use Rattle.vega_charts.specs.inner.Topped.{top_of}
use Rattle.vega_charts.proofs.OutcomeLemmas.{none_stopped}
use Rattle.vega_charts.proofs.charts.drawing_made.Goals as goal

pub made_in-requires-clause-marks : goal.made_in-requires-clause-marks
made_in-requires-clause-marks c =
    subst (MayStand (rows_at c.args.names.sources.now c.args.names.levels.now)) (sym c.marks_in.ensures) c.requires.marks

pub drawing_of_made-requires-clause-marks : goal.drawing_of_made-requires-clause-marks
drawing_of_made-requires-clause-marks c =
    let one : VgMark → CopiesMade → Type 0 = OneMade c.args.names.stores.now c.args.names.sources.now (levels_behind c.args.names.levels.now) in
    record {
      stand = c.requires.marks;
      made =
          subst (AllZip one (marks_in (out-Group c.args.g.now.group))) (sym c.as_slice.ensures)
          (subst (λ marks. AllZip one marks c.in-Ok.made) c.marks_in.ensures c.in-Ok.ensures.made);
    }

pub returns-in-Err : goal.returns-in-Err
returns-in-Err c =
    let g = c.args.g.now in
    let sources = map dataset_of c.args.names.sources.now in
    let names = names_at c.args.names.stores.now c.args.names.sources.now c.args.names.levels.now in
    none_stopped (plots_in_facets sources (marks_of (marks_in (out-Group g.group))) false (is_some (out-Group g.group).layout) names) c.in-Err.error
    c.requires.counted
    (subst (λ marks. Evaluates {X = ℕ} (Err c.in-Err.error)
    (plots_in_facets sources (marks_of marks) false (is_some (out-Group g.group).layout) names)) c.marks_in.ensures
    (c.in-Err.ensures.stops false (is_some (out-Group g.group).layout)))
    (drawing_over g sources (top_of g) names)
