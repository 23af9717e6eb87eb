use Rattle.vega_charts.proofs.TopLaws.{laws}
use Rattle.vega_charts.proofs.laws.laws_of_charts.Goals as goal

pub returns : goal.returns
returns c = laws
