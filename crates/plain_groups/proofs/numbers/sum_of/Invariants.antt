use Rattle.std.proofs.Common.{◌≡◌, ◌*◌, ◌≤◌, ◌+ℤ◌, unsigned_abs, drop}
use Rattle.fixed_num.specs.Number.{limit}
use Rattle.plain_groups.specs.Aggregates.{sum_of}
use Rattle.plain_groups.proofs.numbers.sum_of.Given as goal

abbrev pub invariant-loop-number : goal.invariant-loop-number
invariant-loop-number l = record {
  rest : l.sum +ℤ sum_of (drop l.number-index l.numbers) ≡ sum_of l.numbers;
  bound : unsigned_abs l.sum ≤ l.number-index * limit;
}
