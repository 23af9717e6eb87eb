use Rattle.compiled_rows.proofs.StandingLemmas.{lists_of_begun_are_covered}
use Rattle.compiled_rows.proofs.part_laws.lists_of_begun_are_covered.Goals as goal

pub returns : goal.returns
returns c = lists_of_begun_are_covered
