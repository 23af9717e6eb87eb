use Rattle.compiled_rows.proofs.LostLemmas.{null_signal_is_null}
use Rattle.compiled_rows.proofs.value_laws.null_signal_is_null.Goals as goal

pub returns : goal.returns
returns c = null_signal_is_null
