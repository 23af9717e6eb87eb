use Rattle.compiled_rows.proofs.ValueLemmas.{values_are_alike}
use Rattle.compiled_rows.proofs.value_laws.values_are_alike.Goals as goal

pub returns : goal.returns
returns c = values_are_alike
