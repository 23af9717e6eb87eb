use Rattle.vega_model.proofs.SpecBack.{built_again}
use Rattle.vega_model.proofs.ReadAgain.{unless_none}
use Rattle.vega_model.proofs.writing.what_was_written_is_read.Goals as goal

pub returns : goal.returns
returns c = λ g none codes readings. unless_none _ g _ none (built_again g codes readings)
