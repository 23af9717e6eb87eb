use Rattle.compiled_rows.proofs.ScaleNameLemmas.{scale_names_differ}
use Rattle.compiled_rows.proofs.name_laws.scale_names_differ.Goals as goal

pub returns : goal.returns
returns c = scale_names_differ
