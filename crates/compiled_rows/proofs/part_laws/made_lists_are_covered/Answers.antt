use Rattle.compiled_rows.proofs.StandingLemmas.{made_lists_are_covered}
use Rattle.compiled_rows.proofs.part_laws.made_lists_are_covered.Goals as goal

pub returns : goal.returns
returns c = made_lists_are_covered
