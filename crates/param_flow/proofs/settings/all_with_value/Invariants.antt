use Rattle.std.proofs.Common.{◌≡◌, ◌++◌, map, drop}
use Rattle.param_flow.specs.Machine.{with_value}
use Rattle.param_flow.proofs.settings.all_with_value.Given as goal

abbrev pub invariant-loop-param : goal.invariant-loop-param
invariant-loop-param l =
    l.copies ++ map (with_value l.name l.value) (drop l.param-index l.params) ≡ map (with_value l.name l.value) l.params
