use Rattle.std.proofs.Common.{◌≡◌, ◌++◌, drop, map}
use Rattle.vega_drawing.specs.inner.Kept.{scale_seen, kept_seen}
use Rattle.vega_drawing.proofs.scales.push_own.Given as goal

abbrev pub invariant-loop-kept : goal.invariant-loop-kept
invariant-loop-kept l = map scale_seen l.out ++ map kept_seen (drop l.kept-index l.own) ≡ map scale_seen l.fn.out ++ map kept_seen l.own
