use Rattle.plain_groups.proofs.LawLemmas.{one_row_more, groups_of_parts, groups_are_apart, sums_of_parts}
use Rattle.plain_groups.proofs.laws.laws_of_groups.Goals as goal

pub returns : goal.returns
returns c = record { one_more = one_row_more; parts = groups_of_parts; apart = groups_are_apart; sums = sums_of_parts }
