use Rattle.vega_charts.proofs.OnePlotLaw.{laws}
use Rattle.vega_charts.proofs.laws.laws_of_one_plot.Goals as goal

pub returns : goal.returns
returns c = laws
