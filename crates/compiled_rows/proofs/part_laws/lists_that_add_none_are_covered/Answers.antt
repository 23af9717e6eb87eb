use Rattle.compiled_rows.proofs.StandingLemmas.{lists_that_add_none_are_covered}
use Rattle.compiled_rows.proofs.part_laws.lists_that_add_none_are_covered.Goals as goal

pub returns : goal.returns
returns c = lists_that_add_none_are_covered
