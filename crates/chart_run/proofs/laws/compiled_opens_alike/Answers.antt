use Rattle.chart_run.proofs.Alike.{compiled_opens_alike}
use Rattle.chart_run.proofs.laws.compiled_opens_alike.Goals as goal

pub returns : goal.returns
returns c = compiled_opens_alike
