use Rattle.compiled_rows.proofs.PartLemmas.{scale_lists_are_parted}
use Rattle.compiled_rows.proofs.part_laws.scale_lists_are_parted.Goals as goal

pub returns : goal.returns
returns c = scale_lists_are_parted
