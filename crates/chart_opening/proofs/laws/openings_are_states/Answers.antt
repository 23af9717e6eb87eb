use Rattle.chart_opening.proofs.StateLemmas.{is_state_of}
use Rattle.chart_opening.proofs.laws.openings_are_states.Goals as goal

pub returns : goal.returns
returns c = is_state_of
