use Rattle.chart_opening.proofs.JsonLemmas.{agree}
use Rattle.chart_opening.proofs.laws.readings_agree.Goals as goal

pub returns : goal.returns
returns c = agree
