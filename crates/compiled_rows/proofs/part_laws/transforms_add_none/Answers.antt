use Rattle.compiled_rows.proofs.AddLemmas.{transforms_add_none}
use Rattle.compiled_rows.proofs.part_laws.transforms_add_none.Goals as goal

pub returns : goal.returns
returns c = transforms_add_none
