use Rattle.compiled_rows.proofs.FitLemmas.{plans_fit}
use Rattle.compiled_rows.proofs.step_laws.plans_fit.Goals as goal

pub returns : goal.returns
returns c = plans_fit
