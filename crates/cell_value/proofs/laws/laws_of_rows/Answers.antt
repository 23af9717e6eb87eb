use Rattle.cell_value.proofs.LawLemmas.{what_is_set_is_read, other_names_stay, alike_rows_are_equal}
use Rattle.cell_value.proofs.laws.laws_of_rows.Goals as goal

pub returns : goal.returns
returns c = record { set = what_is_set_is_read; others = other_names_stay; alike = alike_rows_are_equal }
