use Rattle.compiled_rows.proofs.KindLemmas.{params_are_written}
use Rattle.compiled_rows.proofs.state_laws.params_are_written.Goals as goal

pub returns : goal.returns
returns c = params_are_written
