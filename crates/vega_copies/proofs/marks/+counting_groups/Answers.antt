use Rattle.std.proofs.Common.{sym, ◌∙◌}
use Rattle.vega_copies.proofs.OutlineLemmas.{grouped_alone}
use Rattle.vega_copies.proofs.marks.+counting_groups.Goals as goal

pub count_groups_of-returns-then-is_group : goal.count_groups_of-returns-then-is_group
count_groups_of-returns-then-is_group t c =
    grouped_alone c.args.mark.now c.marks_in.result.now c.count_groups.result
    (sym c.is_group.ensures ∙ c.if-is_group.true) c.marks_in.ensures c.count_groups.ensures
