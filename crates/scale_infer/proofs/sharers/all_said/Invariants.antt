use Rattle.std.proofs.Common.{◌≡◌, ◌++◌, drop}
use Rattle.scale_infer.specs.Kinds.{all_said}
use Rattle.scale_infer.proofs.sharers.all_said.Given as goal

abbrev pub invariant-loop-sharer : goal.invariant-loop-sharer
invariant-loop-sharer l = l.said ++ all_said (drop l.sharer-index l.sharers) ≡ all_said l.sharers
