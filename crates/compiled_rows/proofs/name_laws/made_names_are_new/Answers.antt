use Rattle.compiled_rows.proofs.NewLemmas.{made_names_are_new}
use Rattle.compiled_rows.proofs.name_laws.made_names_are_new.Goals as goal

pub returns : goal.returns
returns c = made_names_are_new
