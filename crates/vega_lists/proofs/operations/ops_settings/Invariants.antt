use Rattle.std.proofs.Common.{◌≡◌, ◌++◌, map, drop}
use Rattle.std.specs.List.{enumerate_from}
use Rattle.vega_lists.specs.Operations.{op_at, ops_settings}
use Rattle.vega_lists.proofs.operations.ops_settings.Given as goal

abbrev pub invariant-loop-place : goal.invariant-loop-place
invariant-loop-place l = l.settings ++ map (op_at l.fields l.names) (enumerate_from l.place (drop l.place l.ops)) ≡ ops_settings l.ops l.fields l.names
