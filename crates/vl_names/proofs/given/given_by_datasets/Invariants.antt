use Rattle.std.proofs.Common.{◌≡◌, ◌++◌, drop, map}
use Rattle.std.specs.List.{enumerate_from}
use Rattle.vl_names.specs.Given.{given_by_dataset}
use Rattle.vl_names.proofs.given.given_by_datasets.Given as goal

abbrev pub invariant-loop-number : goal.invariant-loop-number
invariant-loop-number l = l.out ++ map given_by_dataset (enumerate_from l.number (drop l.number l.datasets))
    ≡ map given_by_dataset (enumerate_from 0 l.datasets)
