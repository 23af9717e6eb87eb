use Rattle.compiled_rows.proofs.KeptLemmas.{signals_are_kept_alike}
use Rattle.compiled_rows.proofs.value_laws.signals_are_kept_alike.Goals as goal

pub returns : goal.returns
returns c = signals_are_kept_alike
