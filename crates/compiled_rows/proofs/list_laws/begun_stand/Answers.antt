use Rattle.compiled_rows.proofs.StandLemmas.{begun_stand}
use Rattle.compiled_rows.proofs.list_laws.begun_stand.Goals as goal

pub returns : goal.returns
returns c = begun_stand
