use Rattle.std.proofs.Common.{map, ap, ◌∙◌}
use Rattle.cell_value.specs.Datum.{datum_of}
use Rattle.vega_copies.specs.inner.Levels.{rows_at}
use Rattle.vega_copies.specs.inner.Copied.{scope_at}
use Rattle.vega_copies.proofs.CopyLemmas.{data_behind, rows_have_ids}
use Rattle.vega_copies.proofs.copies.rows_listed.Goals as goal

pub returns : goal.returns
returns c = record {
  read = data_behind c.in_ok-rows.field-0 ∙ ap (map datum_of) c.in_ok-rows.ensures ∙ ap (scope_at c.args.names.now) c.as_str.ensures;
  ids = rows_have_ids c.in_ok-rows.field-0 (rows_at c.args.names.now.sources.now c.args.names.now.levels.now c.as_str.result.now) c.in_ok-rows.ensures
      (c.requires.names.rows c.as_str.result.now);
}
