use Rattle.std.proofs.Common.{◌≡◌, ◌++◌, drop, map}
use Rattle.plain_rows.proofs.lookups.defaults_of.Given as goal

abbrev pub invariant-loop-out : goal.invariant-loop-out
invariant-loop-out l = l.cells ++ map (λ out. (out, l.how.otherwise)) (drop l.out-index l.how.outs) ≡ map (λ out. (out, l.how.otherwise)) l.how.outs
