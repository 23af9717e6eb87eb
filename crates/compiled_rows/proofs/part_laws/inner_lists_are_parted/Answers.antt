use Rattle.compiled_rows.proofs.PartLemmas.{inner_lists_are_parted}
use Rattle.compiled_rows.proofs.part_laws.inner_lists_are_parted.Goals as goal

pub returns : goal.returns
returns c = inner_lists_are_parted
