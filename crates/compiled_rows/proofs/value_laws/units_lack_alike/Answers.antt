use Rattle.compiled_rows.proofs.LostLemmas.{units_lack_alike}
use Rattle.compiled_rows.proofs.value_laws.units_lack_alike.Goals as goal

pub returns : goal.returns
returns c = units_lack_alike
