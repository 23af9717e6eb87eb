use Rattle.std.proofs.Common.{◌≡◌, drop}
use Rattle.std.specs.List.{list_any}
use Rattle.scale_infer.specs.Flags.{takes_zero}
use Rattle.scale_infer.proofs.flags.any_takes_zero.Given as goal

abbrev pub invariant-loop-sharer : goal.invariant-loop-sharer
invariant-loop-sharer l = list_any (takes_zero l.channel) (drop l.sharer-index l.sharers) ≡ list_any (takes_zero l.channel) l.sharers
