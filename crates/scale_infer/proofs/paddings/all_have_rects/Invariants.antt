use Rattle.std.proofs.Common.{◌≡◌, drop}
use Rattle.std.specs.List.{list_all}
use Rattle.scale_infer.specs.Paddings.{has_rects}
use Rattle.scale_infer.proofs.paddings.all_have_rects.Given as goal

abbrev pub invariant-loop-sharer : goal.invariant-loop-sharer
invariant-loop-sharer l = list_all has_rects (drop l.sharer-index l.sharers) ≡ list_all has_rects l.sharers
