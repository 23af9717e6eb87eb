use Rattle.compiled_rows.proofs.LinkLemmas.{rows_are_linked}
use Rattle.compiled_rows.proofs.link_laws.rows_are_linked.Goals as goal

pub returns : goal.returns
returns c = rows_are_linked
