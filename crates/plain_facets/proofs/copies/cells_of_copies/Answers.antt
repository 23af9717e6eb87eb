use Rattle.std.proofs.Common.{sym, subst}
use Rattle.plain_facets.specs.Facets.{AreDifferent}
use Rattle.plain_facets.specs.Rows.{data_of}
use Rattle.plain_facets.proofs.DifferentLemmas.{copies_are_different}
use Rattle.plain_facets.proofs.copies.cells_of_copies.Goals as goal

pub returns : goal.returns
returns c = record {
  cells = c.in_ok-cells_in_either_way.ensures;
  different = subst AreDifferent (sym c.in_ok-cells_in_either_way.ensures) (copies_are_different c.args.d.now (data_of c.args.rows.now));
}
