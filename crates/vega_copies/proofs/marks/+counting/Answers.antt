use Rattle.std.proofs.Common.{sym, ◌∙◌}
use Rattle.vega_copies.proofs.OutlineLemmas.{counted_alone}
use Rattle.vega_copies.proofs.marks.+counting.Goals as goal

pub count_marks_of-returns-then-is_group : goal.count_marks_of-returns-then-is_group
count_marks_of-returns-then-is_group t c =
    counted_alone c.args.mark.now c.marks_in.result.now c.count_marks.result
    (sym c.is_group.ensures ∙ c.if-is_group.true) c.marks_in.ensures c.count_marks.ensures
