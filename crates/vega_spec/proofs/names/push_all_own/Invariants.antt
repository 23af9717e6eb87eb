use Rattle.std.proofs.Common.{◌≡◌, ◌++◌, take}
use Rattle.vega_spec.specs.Names.{own_sources}
use Rattle.vega_spec.proofs.names.push_all_own.Given as goal

abbrev pub invariant-loop-set : goal.invariant-loop-set
invariant-loop-set l = l.out ≡ l.initial.out ++ own_sources (take l.set-index l.sets)
