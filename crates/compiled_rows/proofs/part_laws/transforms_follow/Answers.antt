use Rattle.compiled_rows.proofs.FollowLemmas.{transforms_follow}
use Rattle.compiled_rows.proofs.part_laws.transforms_follow.Goals as goal

pub returns : goal.returns
returns c = transforms_follow
