use Rattle.compiled_rows.proofs.StandingLemmas.{stands_where_all_stand}
use Rattle.compiled_rows.proofs.part_laws.stands_where_all_stand.Goals as goal

pub returns : goal.returns
returns c = stands_where_all_stand
