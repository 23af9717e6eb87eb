use Rattle.std.proofs.Common.{◌≡◌, arith}
use Rattle.std.proofs.lemmas.Int.{ints}
use Rattle.plain_groups.proofs.numbers.four_times_between.Goals as goal

pub returns-in-1-clause-value : goal.returns-in-1-clause-value
returns-in-1-clause-value c = rw c.in-1.is (omega (arith, ints))

pub returns-in-2-clause-value : goal.returns-in-2-clause-value
returns-in-2-clause-value c = rw c.in-2.is (omega (arith, ints))

pub returns-in_default-clause-value : goal.returns-in_default-clause-value
returns-in_default-clause-value c = let three : c.args.part ≡ 3 = omega arith in rw three (omega (arith, ints))
