use Rattle.vega_guides.proofs.TestedLaw.{law}
use Rattle.vega_guides.proofs.tested.axes_are_tested.Goals as goal

pub returns : goal.returns
returns c = law
