use Rattle.compiled_rows.proofs.FollowLemmas.{followers_are_covered}
use Rattle.compiled_rows.proofs.part_laws.followers_are_covered.Goals as goal

pub returns : goal.returns
returns c = followers_are_covered
