use Rattle.vega_standing.proofs.Top.{objects_pass}
use Rattle.vega_standing.proofs.laws.objects_are_kept.Goals as goal

pub returns : goal.returns
returns c = objects_pass
