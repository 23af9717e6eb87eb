use Rattle.std.proofs.Common.{◌/◌, ap, ◌∙◌, length, arith}
use Rattle.std.proofs.lemmas.Fmt.{length-decimal-le}
use Rattle.fixed_num.proofs.decimal.put_size.Goals as goal

pub returns-clause-bound : goal.returns-clause-bound
returns-clause-bound c =
    omega (
      arith,
      length-decimal-le 16 (c.args.size / 1000000) (omega arith) (omega arith) (omega arith),
      ap length
          (c.as_bytes.ensures.value ∙ c.format-whole.ensures.text),
    )
