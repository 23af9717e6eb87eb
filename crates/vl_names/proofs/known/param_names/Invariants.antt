use Rattle.std.proofs.Common.{◌≡◌, ◌++◌, drop}
use Rattle.vl_names.specs.Known.{param_names}
use Rattle.vl_names.proofs.known.param_names.Given as goal

abbrev pub invariant-loop-param : goal.invariant-loop-param
invariant-loop-param l = l.names ++ param_names (drop l.param-index l.params) ≡ param_names l.params
