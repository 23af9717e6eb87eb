use Rattle.compiled_rows.proofs.PartLemmas.{units_are_parted}
use Rattle.compiled_rows.proofs.part_laws.units_are_parted.Goals as goal

pub returns : goal.returns
returns c = units_are_parted
