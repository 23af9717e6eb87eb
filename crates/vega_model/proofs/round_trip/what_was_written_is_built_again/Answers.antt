use Rattle.vega_model.proofs.SpecBack.{built_again}
use Rattle.vega_model.proofs.round_trip.what_was_written_is_built_again.Goals as goal

pub returns : goal.returns
returns c = built_again
