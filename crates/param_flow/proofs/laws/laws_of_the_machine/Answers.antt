use Rattle.param_flow.proofs.KeptStates.{states_are_kept}
use Rattle.param_flow.proofs.Agreeing.{machines_agree, outputs_agree}
use Rattle.param_flow.proofs.laws.laws_of_the_machine.Goals as goal

pub returns : goal.returns
returns c = record { kept = states_are_kept; alike = machines_agree; outputs = outputs_agree }
