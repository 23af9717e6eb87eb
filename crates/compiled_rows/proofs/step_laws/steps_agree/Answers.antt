use Rattle.compiled_rows.proofs.StepLemmas.{steps_agree}
use Rattle.compiled_rows.proofs.step_laws.steps_agree.Goals as goal

pub returns : goal.returns
returns c = steps_agree
