use Rattle.compiled_rows.proofs.LeaveLemmas.{fields_are_told}
use Rattle.compiled_rows.proofs.part_laws.fields_are_told.Goals as goal

pub returns : goal.returns
returns c = fields_are_told
