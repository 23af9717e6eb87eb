use Rattle.vl_rules.proofs.KeptLemmas.{without_faults_kept}
use Rattle.vl_rules.proofs.law.kept_where_faultless.Goals as goal

pub returns : goal.returns
returns c = without_faults_kept
