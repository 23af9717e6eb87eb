use Rattle.unit_laws.proofs.NoneLemmas.{others_have_none}
use Rattle.unit_laws.proofs.laws.others_have_none.Goals as goal

pub returns : goal.returns
returns c = others_have_none
