use Rattle.std.proofs.Common.{◌≡◌, Some, arith}
use Rattle.vega_spec.specs.declared.marks.MarkFrom.TheVariants as from
use Rattle.vega_copies.specs.inner.Levels.{rows_at}
use Rattle.vega_charts.proofs.RowLemmas.{rows_named}
use Rattle.vega_charts.proofs.makers.rows_of_mark.Goals as goal

pub returns-in-Some-Data-clause-read : goal.returns-in-Some-Data-clause-read
returns-in-Some-Data-clause-read c =
    let source : c.args.from.now ≡ Some (from.Data c.in-Some-Data.name) = first_of (cc, grind arith) in
    rows_named c.rows.result (rows_at c.args.names.now.sources.now c.args.names.now.levels.now) c.in-Some-Data.name c.as_str.result.now c.args.from.now
    c.as_str.ensures source c.rows.ensures
