use Rattle.plain_facets.specs.Rows.{HaveIds}
use Rattle.call_table.proofs.facets.show_all.Given as goal

abbrev pub invariant-loop-row : goal.invariant-loop-row
invariant-loop-row l = HaveIds l.shown
