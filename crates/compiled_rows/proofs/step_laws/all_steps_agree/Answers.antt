use Rattle.compiled_rows.proofs.StepLemmas.{all_steps_agree}
use Rattle.compiled_rows.proofs.step_laws.all_steps_agree.Goals as goal

pub returns : goal.returns
returns c = all_steps_agree
