use Rattle.compiled_rows.proofs.InsideLemmas.{inside_adds_nothing}
use Rattle.compiled_rows.proofs.value_laws.inside_adds_nothing.Goals as goal

pub returns : goal.returns
returns c = inside_adds_nothing
