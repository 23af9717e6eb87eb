use Rattle.vl_building.proofs.FindLemmas.{naming_is}
use Rattle.vl_building.proofs.naming.named_by.Goals as goal

pub returns-clause-naming : goal.returns-clause-naming
returns-clause-naming c =
    naming_is c.args.all _ c.args.params.now _ _ c.as_slice.ensures c.in_ok-data_.ensures c.in_ok-params.ensures
