use Rattle.compiled_rows.proofs.ChoiceLemmas.{copies_are_choices}
use Rattle.compiled_rows.proofs.part_laws.copies_are_choices.Goals as goal

pub returns : goal.returns
returns c = copies_are_choices
