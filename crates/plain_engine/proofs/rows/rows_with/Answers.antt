use Rattle.std.proofs.Common.{map, sym, ap, ◌∙◌, subst}
use Rattle.std.specs.Prelude.{IfOk}
use Rattle.cell_value.specs.State.{dataset_of}
use Rattle.vega_lists.specs.Held.{AreAllRows}
use Rattle.vega_spec.specs.declared.spec.Group.{out-Group}
use Rattle.vega_copies.specs.inner.Outlined.{marks_in}
use Rattle.vega_copies.specs.inner.Standing.{MayStand}
use Rattle.vega_charts.specs.inner.Outcomes.{drawn_within}
use Rattle.vega_charts.proofs.TopLemmas.{rows_alike, names_alike}
use Rattle.plain_engine.specs.inner.Drawn.{StopsDrawing}
use Rattle.plain_engine.specs.inner.Rows.{TellsRows}
use Rattle.plain_engine.proofs.rows.rows_with.Goals as goal

pub rows_named-requires-clause-names : goal.rows_named-requires-clause-names
rows_named-requires-clause-names c = record {
  sources_are = c.requires.sources;
  rows = subst AreAllRows
      (sym (rows_alike c.args.sources.now c.as_slice.result.now c.args.level.now (ap (map (λ l. l.now)) c.as_slice.ensures ∙ c.in-Ok.ensures)))
      c.requires.rows;
}

pub rows_named-requires-clause-marks : goal.rows_named-requires-clause-marks
rows_named-requires-clause-marks c =
    subst (λ rows. MayStand rows (marks_in (out-Group c.args.g.now.group)))
    (sym (rows_alike c.args.sources.now c.as_slice.result.now c.args.level.now (ap (map (λ l. l.now)) c.as_slice.ensures ∙ c.in-Ok.ensures)))
    c.requires.marks

pub returns-in-Ok-clause-stops : goal.returns-in-Ok-clause-stops
returns-in-Ok-clause-stops c =
    subst (λ names. StopsDrawing c.rows_named.result (drawn_within (map dataset_of c.args.sources.now) c.args.g.now names))
    (names_alike c.args.stores.now c.args.sources.now c.as_slice.result.now c.args.level.now (ap (map (λ l. l.now)) c.as_slice.ensures ∙ c.in-Ok.ensures))
    c.rows_named.ensures.stops

pub returns-in-Ok-clause-rows : goal.returns-in-Ok-clause-rows
returns-in-Ok-clause-rows c =
    subst (λ names. IfOk c.rows_named.result (TellsRows (map dataset_of c.args.sources.now) c.args.g.now names))
    (names_alike c.args.stores.now c.args.sources.now c.as_slice.result.now c.args.level.now (ap (map (λ l. l.now)) c.as_slice.ensures ∙ c.in-Ok.ensures))
    c.rows_named.ensures.rows
