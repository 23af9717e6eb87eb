use Rattle.std.proofs.Common.{◌≡◌, ◌++◌, map, drop}
use Rattle.std.specs.List.{enumerate_from}
use Rattle.vega_lists.specs.Operations.{param_for, params_of}
use Rattle.vega_lists.proofs.operations.params_of.Given as goal

abbrev pub invariant-loop-place : goal.invariant-loop-place
invariant-loop-place l = l.given ++ map (param_for l.params) (enumerate_from l.place (drop l.place l.ops)) ≡ params_of l.ops l.params
