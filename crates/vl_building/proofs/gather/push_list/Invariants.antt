use Rattle.std.proofs.Common.{◌≡◌, ◌++◌, drop, map}
use Rattle.std.specs.List.{enumerate_from}
use Rattle.vl_building.specs.Gather.{param_at, params_in}
use Rattle.vl_building.proofs.gather.push_list.Given as goal

abbrev pub invariant-loop-number : goal.invariant-loop-number
invariant-loop-number l = l.out ++ map (param_at l.place) (enumerate_from l.number (drop l.number l.items))
    ≡ l.fn.out ++ params_in l.place l.items
