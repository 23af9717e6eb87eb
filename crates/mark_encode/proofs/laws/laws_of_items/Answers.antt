use Rattle.mark_encode.proofs.LawLemmas.{each_in_turn, part_by_part}
use Rattle.mark_encode.proofs.laws.laws_of_items.Goals as goal

pub returns : goal.returns
returns c = record { of_each_row = each_in_turn; in_parts = part_by_part }
