use Rattle.plain_facets.specs.Rows.{HaveIds}
use Rattle.call_table.proofs.facets.all_shown.Given as goal

abbrev pub invariant-loop-list : goal.invariant-loop-list
invariant-loop-list l = HaveIds l.shown
