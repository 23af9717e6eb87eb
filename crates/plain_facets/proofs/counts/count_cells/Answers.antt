use Rattle.std.proofs.Common.{sym, subst}
use Rattle.plain_facets.specs.Facets.{AreDifferent}
use Rattle.plain_facets.specs.Rows.{data_of}
use Rattle.plain_facets.proofs.DifferentLemmas.{with_rows_are_different}
use Rattle.plain_facets.proofs.counts.count_cells.Goals as goal

pub returns-clause-different : goal.returns-clause-different
returns-clause-different c =
    subst AreDifferent (sym c.in_ok-counted_in_either_way.ensures.with_rows) (with_rows_are_different c.args.d.now (data_of c.args.rows.now))
