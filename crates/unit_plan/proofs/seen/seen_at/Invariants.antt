use Rattle.std.proofs.Common.{◌≡◌, drop}
use Rattle.unit_plan.specs.Seen.{seen_at}
use Rattle.unit_plan.proofs.seen.seen_at.Given as goal

abbrev pub invariant-loop-scale : goal.invariant-loop-scale
invariant-loop-scale l = seen_at (drop l.scale-index l.scales) l.channel ≡ seen_at l.scales l.channel
