use Rattle.vl_model.proofs.KeptLemmas.{keeps}
use Rattle.vl_model.proofs.reading.read.Goals as goal

pub returns-in-None-clause-kept : goal.returns-in-None-clause-kept
returns-in-None-clause-kept c =
    keeps c.kept_where_faultless.ensures c.args.tree.now c.in_ok-spec.spec c.in_ok-fault.field-0 c.in_ok-fault.ensures c.in-None.is
