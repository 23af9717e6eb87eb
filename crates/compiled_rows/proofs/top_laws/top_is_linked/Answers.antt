use Rattle.compiled_rows.proofs.TopLemmas.{top_is_linked}
use Rattle.compiled_rows.proofs.top_laws.top_is_linked.Goals as goal

pub returns : goal.returns
returns c = top_is_linked
