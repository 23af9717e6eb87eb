use Rattle.expr_reading.proofs.ReadingLemmas.{call_read}
use Rattle.expr_reading.proofs.readings.call_of.Goals as goal

pub returns : goal.returns
returns c = call_read c.args.text.now c.text_call.result c.text_call.ensures.sound c.text_call.ensures.complete
