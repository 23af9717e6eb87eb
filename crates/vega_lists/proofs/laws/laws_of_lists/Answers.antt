use Rattle.vega_lists.proofs.StateLemmas.{sources_of_state}
use Rattle.vega_lists.proofs.laws.laws_of_lists.Goals as goal

pub returns : goal.returns
returns c = sources_of_state
