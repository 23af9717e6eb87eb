use Rattle.compiled_rows.proofs.PlaceLemmas.{others_stand}
use Rattle.compiled_rows.proofs.list_laws.others_stand.Goals as goal

pub returns : goal.returns
returns c = others_stand
