use Rattle.std.proofs.Common.{◌≡◌, drop}
use Rattle.std.specs.List.{list_any}
use Rattle.scale_infer.specs.Kinds.{has_bands}
use Rattle.scale_infer.proofs.kinds.any_has_bands.Given as goal

abbrev pub invariant-loop-sharer : goal.invariant-loop-sharer
invariant-loop-sharer l = list_any has_bands (drop l.sharer-index l.sharers) ≡ list_any has_bands l.sharers
