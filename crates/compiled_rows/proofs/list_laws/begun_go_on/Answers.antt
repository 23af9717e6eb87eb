use Rattle.compiled_rows.proofs.StandLemmas.{begun_go_on}
use Rattle.compiled_rows.proofs.list_laws.begun_go_on.Goals as goal

pub returns : goal.returns
returns c = begun_go_on
