use Rattle.compiled_rows.proofs.GroundLemmas.{chart_states_have_top}
use Rattle.compiled_rows.proofs.state_laws.chart_states_have_top.Goals as goal

pub returns : goal.returns
returns c = chart_states_have_top
