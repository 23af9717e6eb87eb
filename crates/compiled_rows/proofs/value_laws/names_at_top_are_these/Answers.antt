use Rattle.compiled_rows.proofs.SignalLemmas.{names_at_top_are_these}
use Rattle.compiled_rows.proofs.value_laws.names_at_top_are_these.Goals as goal

pub returns : goal.returns
returns c = names_at_top_are_these
