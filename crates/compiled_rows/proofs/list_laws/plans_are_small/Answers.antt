use Rattle.compiled_rows.proofs.FewLemmas.{plans_are_small}
use Rattle.compiled_rows.proofs.list_laws.plans_are_small.Goals as goal

pub returns : goal.returns
returns c = plans_are_small
