use Rattle.compiled_rows.proofs.GivenLemmas.{names_of_params_differ}
use Rattle.compiled_rows.proofs.state_laws.names_of_params_differ.Goals as goal

pub returns : goal.returns
returns c = names_of_params_differ
