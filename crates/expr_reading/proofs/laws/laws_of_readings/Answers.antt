use Rattle.expr_reading.proofs.ReadingLemmas.{expression_is, call_is}
use Rattle.expr_reading.proofs.laws.laws_of_readings.Goals as goal

pub returns : goal.returns
returns c = record { expression = expression_is; call = call_is }
