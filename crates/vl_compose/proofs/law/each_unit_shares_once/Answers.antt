use Rattle.vl_compose.proofs.SharedLemmas.{each_unit}
use Rattle.vl_compose.proofs.law.each_unit_shares_once.Goals as goal

pub returns : goal.returns
returns c = each_unit
