use Rattle.compiled_rows.proofs.ChoiceLemmas.{parts_are_covered}
use Rattle.compiled_rows.proofs.part_laws.parts_are_covered.Goals as goal

pub returns : goal.returns
returns c = parts_are_covered
