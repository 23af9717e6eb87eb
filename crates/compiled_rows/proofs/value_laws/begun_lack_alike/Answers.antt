use Rattle.compiled_rows.proofs.LostLemmas.{begun_lack_alike}
use Rattle.compiled_rows.proofs.value_laws.begun_lack_alike.Goals as goal

pub returns : goal.returns
returns c = begun_lack_alike
