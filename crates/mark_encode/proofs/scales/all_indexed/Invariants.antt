use Rattle.std.proofs.Common.{◌≡◌, ◌++◌, drop}
use Rattle.mark_encode.specs.inner.Scales.{scales_of}
use Rattle.mark_encode.proofs.scales.all_indexed.Given as goal

abbrev pub invariant-loop-scale : goal.invariant-loop-scale
invariant-loop-scale l = l.indexed ++ scales_of (drop l.scale-index l.scales) ≡ scales_of l.scales
