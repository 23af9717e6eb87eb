use Rattle.compiled_rows.proofs.SignalLemmas.{commands_read_alike}
use Rattle.compiled_rows.proofs.value_laws.commands_read_alike.Goals as goal

pub returns : goal.returns
returns c = commands_read_alike
