use Rattle.play_script.proofs.Split.{ended_first}
use Rattle.play_script.proofs.laws.ended_first.Goals as goal

pub returns : goal.returns
returns c = ended_first
