use Rattle.compiled_rows.proofs.LinkLemmas.{begun_are_linked}
use Rattle.compiled_rows.proofs.link_laws.begun_are_linked.Goals as goal

pub returns : goal.returns
returns c = begun_are_linked
