use Rattle.std.proofs.Common.{arith, sym}
use Rattle.std.proofs.lemmas.Int.{ints}
use Rattle.time_calc.proofs.DatetimeLemmas.{no_year_before_1, no_year_after_9998}
use Rattle.time_calc.proofs.datetime.first_day.Goals as goal
use Rattle.time_calc.proofs.datetime.first_day.Goals.{then-year-lt1-via-then-year-lt1, then-year-lt1-via-else-year-lt1+then-year-gt9998}

pub returns-then-year-lt1-clause-value : goal.returns-then-year-lt1-clause-value
returns-then-year-lt1-clause-value c =
    elim c.then-year-lt1.branch [
      | then-year-lt1-via-then-year-lt1 w ↦ sym (no_year_before_1 c.args.year c.args.month c.requires.high (omega (arith, ints)))
      | then-year-lt1-via-else-year-lt1+then-year-gt9998 w ↦ sym (no_year_after_9998 c.args.year c.args.month (omega (arith, ints)))
    ]
