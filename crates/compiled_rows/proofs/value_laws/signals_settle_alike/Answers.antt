use Rattle.compiled_rows.proofs.ValueLemmas.{signals_settle_alike}
use Rattle.compiled_rows.proofs.value_laws.signals_settle_alike.Goals as goal

pub returns : goal.returns
returns c = signals_settle_alike
