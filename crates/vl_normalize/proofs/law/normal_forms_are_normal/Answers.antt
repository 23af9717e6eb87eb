use Rattle.vl_normalize.proofs.NormalLemmas.{normal_forms}
use Rattle.vl_normalize.proofs.law.normal_forms_are_normal.Goals as goal

pub returns : goal.returns
returns c = normal_forms
