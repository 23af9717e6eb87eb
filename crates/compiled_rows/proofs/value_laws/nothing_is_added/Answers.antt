use Rattle.compiled_rows.proofs.SignalLemmas.{nothing_is_added}
use Rattle.compiled_rows.proofs.value_laws.nothing_is_added.Goals as goal

pub returns : goal.returns
returns c = nothing_is_added
