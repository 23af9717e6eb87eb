use Rattle.play_script.proofs.Vega.{as_vega}
use Rattle.play_script.proofs.laws.as_vega.Goals as goal

pub returns : goal.returns
returns c = as_vega
