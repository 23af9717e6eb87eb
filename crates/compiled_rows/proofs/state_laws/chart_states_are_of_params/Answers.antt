use Rattle.compiled_rows.proofs.StateLemmas.{chart_states_are_of_params}
use Rattle.compiled_rows.proofs.state_laws.chart_states_are_of_params.Goals as goal

pub returns : goal.returns
returns c = chart_states_are_of_params
