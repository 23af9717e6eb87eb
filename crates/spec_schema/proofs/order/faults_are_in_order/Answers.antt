use Rattle.spec_schema.proofs.InOrder.{ordered}
use Rattle.spec_schema.proofs.order.faults_are_in_order.Goals as goal

pub returns : goal.returns
returns c = ordered
