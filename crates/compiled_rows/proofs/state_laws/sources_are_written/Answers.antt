use Rattle.compiled_rows.proofs.OriginLemmas.{sources_are_written}
use Rattle.compiled_rows.proofs.state_laws.sources_are_written.Goals as goal

pub returns : goal.returns
returns c = sources_are_written
