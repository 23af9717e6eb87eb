use Rattle.unit_laws.proofs.StartLemmas.{starts_agree}
use Rattle.unit_laws.proofs.laws.starts_agree.Goals as goal

pub returns : goal.returns
returns c = starts_agree
