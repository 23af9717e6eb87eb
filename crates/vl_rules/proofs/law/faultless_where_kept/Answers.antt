use Rattle.vl_rules.proofs.KeptLemmas.{kept_without_faults}
use Rattle.vl_rules.proofs.law.faultless_where_kept.Goals as goal

pub returns : goal.returns
returns c = kept_without_faults
