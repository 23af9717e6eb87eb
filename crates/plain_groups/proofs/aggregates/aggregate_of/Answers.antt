use Rattle.std.proofs.Common.{arith, ap, sym, ◌∙◌, Some}
use Rattle.plain_groups.specs.Aggregates.{aggregates, count_cell}
use Rattle.plain_groups.proofs.GroupLemmas.{no_aggregate, count_both}
use Rattle.plain_groups.proofs.aggregates.aggregate_of.Goals as goal

pub returns-in_default : goal.returns-in_default
returns-in_default c = no_aggregate c.args.op c.args.cells.now (omega arith)

pub returns-in-1 : goal.returns-in-1
unfolding aggregates
returns-in-1 c =
    rw c.in-1.is (ap Some (sym (c.count_cell-in-1.ensures ∙ ap count_cell (omega (arith, count_both c.args.cells.now, c.nulls.ensures.value)))))
