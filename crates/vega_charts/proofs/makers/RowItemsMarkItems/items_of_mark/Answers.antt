use Rattle.std.proofs.Common.{◌≡◌, ap, ◌∙◌, subst}
use Rattle.expr_eval.specs.Answers.{Evaluates}
use Rattle.vega_lists.specs.Held.{scope_read, AreAllRows}
use Rattle.vega_spec.specs.declared.spec.VgMark.{out-VgMark}
use Rattle.vega_copies.specs.inner.FactsMade.{made_at}
use Rattle.vega_copies.specs.inner.Levels.{rows_at}
use Rattle.vega_copies.specs.inner.Made.{levels_behind, rows_under}
use Rattle.vega_copies.specs.inner.Outlined.{plain_of}
use Rattle.vega_copies.proofs.PathLemmas.{names_on_path}
use Rattle.vega_charts.specs.Items.{items_in_copy}
use Rattle.vega_charts.specs.inner.Rows.{top_of_rows, lists_of_rows}
use Rattle.vega_charts.proofs.RowLemmas.{seen_by_path}
use Rattle.vega_charts.proofs.makers.RowItemsMarkItems.items_of_mark.Goals as goal

pub items_on_levels-requires-clause-names : goal.items_on_levels-requires-clause-names
items_on_levels-requires-clause-names c =
    let rows = c.args.self.now in record {
      sources_are = c.requires.sound.sources_are;
      rows =
          subst AreAllRows
          (names_on_path rows.sources.now rows.level.now rows.made.now c.args.frame.now.path.now c.as_slice.result.now
          (ap levels_behind c.as_slice.ensures ∙ c.in_ok-levels.ensures)) (c.requires.sound.on_paths c.args.frame.now.path.now);
    }

pub returns : goal.returns
returns c =
    let rows = c.args.self.now in
    let frame = c.args.frame.now in
    let same : rows_under rows.sources.now (made_at (top_of_rows rows) frame.path.now).levels ≡ rows_at rows.sources.now c.as_slice.result.now =
    names_on_path rows.sources.now rows.level.now rows.made.now frame.path.now
    c.as_slice.result.now (ap levels_behind c.as_slice.ensures ∙ c.in_ok-levels.ensures) in
    subst (λ seen. Evaluates c.items_on_levels.result (items_in_copy c.args.unit (plain_of (out-VgMark c.args.mark.now)) seen))
    (seen_by_path (lists_of_rows rows) frame (rows_at rows.sources.now c.as_slice.result.now) (ap scope_read same)) c.items_on_levels.ensures
