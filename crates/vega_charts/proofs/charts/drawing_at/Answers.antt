use Rattle.std.proofs.Common.{map, sym, ap, ◌∙◌, subst}
use Rattle.cell_value.specs.State.{dataset_of}
use Rattle.vega_lists.specs.Held.{AreAllRows}
use Rattle.vega_spec.specs.declared.spec.Group.{out-Group}
use Rattle.vega_charts.specs.Answers.{Comes}
use Rattle.vega_copies.specs.inner.Standing.{MayStand}
use Rattle.vega_charts.specs.inner.Outcomes.{drawn_within}
use Rattle.vega_copies.specs.inner.Outlined.{marks_in}
use Rattle.vega_charts.proofs.TopLemmas.{rows_alike, names_alike}
use Rattle.vega_charts.proofs.charts.drawing_at.Goals as goal

pub drawing_within-requires-clause-names : goal.drawing_within-requires-clause-names
drawing_within-requires-clause-names c = record {
  sources_are = c.requires.sources;
  rows = subst AreAllRows
      (sym (rows_alike c.args.sources.now c.as_slice.result.now c.args.level.now (ap (map (λ l. l.now)) c.as_slice.ensures ∙ c.in-Ok.ensures)))
      c.requires.rows;
}

pub drawing_within-requires-clause-marks : goal.drawing_within-requires-clause-marks
drawing_within-requires-clause-marks c =
    subst (λ rows. MayStand rows (marks_in (out-Group c.args.g.now.group)))
    (sym (rows_alike c.args.sources.now c.as_slice.result.now c.args.level.now (ap (map (λ l. l.now)) c.as_slice.ensures ∙ c.in-Ok.ensures)))
    c.requires.marks

pub drawing_within-requires-clause-level : goal.drawing_within-requires-clause-level
drawing_within-requires-clause-level c = ap (map (λ l. l.now)) c.as_slice.ensures ∙ c.in-Ok.ensures

pub returns-in-Ok : goal.returns-in-Ok
returns-in-Ok c =
    subst (λ names. Comes (drawn_within (map dataset_of c.args.sources.now) c.args.g.now names) c.drawing_within.result)
    (names_alike c.args.stores.now c.args.sources.now c.as_slice.result.now c.args.level.now (ap (map (λ l. l.now)) c.as_slice.ensures ∙ c.in-Ok.ensures))
    c.drawing_within.ensures
