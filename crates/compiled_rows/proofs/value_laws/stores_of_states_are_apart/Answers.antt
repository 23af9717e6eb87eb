use Rattle.compiled_rows.proofs.KeptLemmas.{stores_of_states_are_apart}
use Rattle.compiled_rows.proofs.value_laws.stores_of_states_are_apart.Goals as goal

pub returns : goal.returns
returns c = stores_of_states_are_apart
