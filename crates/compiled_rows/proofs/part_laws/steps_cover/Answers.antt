use Rattle.compiled_rows.proofs.BegunLemmas.{steps_cover}
use Rattle.compiled_rows.proofs.part_laws.steps_cover.Goals as goal

pub returns : goal.returns
returns c = steps_cover
