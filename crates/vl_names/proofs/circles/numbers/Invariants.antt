use Rattle.std.proofs.Common.{◌≡◌, ◌++◌, drop, map}
use Rattle.std.specs.List.{enumerate_from}
use Rattle.vl_names.specs.inner.Numbers.{number_of}
use Rattle.vl_names.proofs.circles.numbers.Given as goal

abbrev pub invariant-loop-number : goal.invariant-loop-number
invariant-loop-number l = l.numbers ++ map number_of (enumerate_from l.number (drop l.number l.params)) ≡ map number_of (enumerate_from 0 l.params)
