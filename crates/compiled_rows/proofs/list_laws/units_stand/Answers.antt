use Rattle.compiled_rows.proofs.StandLemmas.{units_stand}
use Rattle.compiled_rows.proofs.list_laws.units_stand.Goals as goal

pub returns : goal.returns
returns c = units_stand
