use Rattle.compiled_rows.proofs.PartLemmas.{lists_are_parted}
use Rattle.compiled_rows.proofs.part_laws.lists_are_parted.Goals as goal

pub returns : goal.returns
returns c = lists_are_parted
