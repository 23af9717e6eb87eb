use Rattle.std.proofs.Common.{◌≡◌, ◌++◌, drop, map}
use Rattle.vl_compose.specs.Shown.{unit_shown}
use Rattle.scale_infer.specs.Scales.{scale_of}
use Rattle.scale_infer.proofs.scales.scales_of.Given as goal

abbrev pub invariant-loop-one : goal.invariant-loop-one
invariant-loop-one l = l.scales ++ map (scale_of (map unit_shown l.units)) (drop l.one-index l.shared) ≡ map (scale_of (map unit_shown l.units)) l.shared
