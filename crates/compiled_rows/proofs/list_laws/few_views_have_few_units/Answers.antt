use Rattle.compiled_rows.proofs.FewLemmas.{few_views_have_few_units}
use Rattle.compiled_rows.proofs.list_laws.few_views_have_few_units.Goals as goal

pub returns : goal.returns
returns c = few_views_have_few_units
