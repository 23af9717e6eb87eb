use Rattle.compiled_rows.proofs.FacetLemmas.{facet_units_rise}
use Rattle.compiled_rows.proofs.list_laws.facet_units_rise.Goals as goal

pub returns : goal.returns
returns c = facet_units_rise
