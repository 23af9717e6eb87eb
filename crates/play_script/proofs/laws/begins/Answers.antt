use Rattle.play_script.proofs.Vega.{vega_begins}
use Rattle.play_script.proofs.laws.begins.Goals as goal

pub returns : goal.returns
returns c = vega_begins
