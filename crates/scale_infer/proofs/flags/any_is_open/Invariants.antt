use Rattle.std.proofs.Common.{◌≡◌, drop}
use Rattle.std.specs.List.{list_any}
use Rattle.scale_infer.specs.Flags.{is_open}
use Rattle.scale_infer.proofs.flags.any_is_open.Given as goal

abbrev pub invariant-loop-sharer : goal.invariant-loop-sharer
invariant-loop-sharer l = list_any is_open (drop l.sharer-index l.sharers) ≡ list_any is_open l.sharers
