use Rattle.std.proofs.Common.{◌≡◌, ◌++◌, drop, map}
use Rattle.chart_plan.specs.Grids.{shown_by}
use Rattle.chart_plan.proofs.kept.push_several.Given as goal

abbrev pub invariant-loop-channel : goal.invariant-loop-channel
invariant-loop-channel l =
    map (λ d. d.now) l.out ++ map shown_by (drop l.channel-index l.channels) ≡ map (λ d. d.now) l.fn.out ++ map shown_by l.channels
