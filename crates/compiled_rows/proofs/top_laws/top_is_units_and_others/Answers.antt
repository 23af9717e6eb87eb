use Rattle.compiled_rows.proofs.TopLemmas.{top_is_units_and_others}
use Rattle.compiled_rows.proofs.top_laws.top_is_units_and_others.Goals as goal

pub returns : goal.returns
returns c = top_is_units_and_others
