use Rattle.compiled_rows.proofs.StandLemmas.{units_are_numbered}
use Rattle.compiled_rows.proofs.list_laws.units_are_numbered.Goals as goal

pub returns : goal.returns
returns c = units_are_numbered
