use Rattle.std.proofs.Common.{◌≡◌, ◌++◌, map, take}
use Rattle.chart_opening.specs.Sources.{own_sets}
use Rattle.chart_opening.proofs.sources.push_all_own.Given as goal

abbrev pub invariant-loop-set : goal.invariant-loop-set
invariant-loop-set l = map (λ s. s.now) l.sets.items ≡ map (λ s. s.now) l.initial.sets.items ++ own_sets (take l.set-index l.all)
