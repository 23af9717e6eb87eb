use Rattle.std.proofs.Common.{◌≡◌, drop}
use Rattle.std.specs.List.{enumerate_from}
use Rattle.vl_names.specs.Params.{first_breaking}
use Rattle.vl_names.proofs.params.first_breaking.Given as goal

abbrev pub invariant-loop-number : goal.invariant-loop-number
invariant-loop-number g l = first_breaking (g.R.ParamRule.broken l.rule) (enumerate_from l.number (drop l.number l.params))
    ≡ first_breaking (g.R.ParamRule.broken l.rule) (enumerate_from 0 l.params)
