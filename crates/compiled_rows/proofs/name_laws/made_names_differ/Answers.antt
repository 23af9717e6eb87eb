use Rattle.compiled_rows.proofs.NameLemmas.{made_names_differ}
use Rattle.compiled_rows.proofs.name_laws.made_names_differ.Goals as goal

pub returns : goal.returns
returns c = made_names_differ
