use Rattle.compiled_rows.proofs.UnitLemmas.{units_come_first}
use Rattle.compiled_rows.proofs.list_laws.units_come_first.Goals as goal

pub returns : goal.returns
returns c = units_come_first
