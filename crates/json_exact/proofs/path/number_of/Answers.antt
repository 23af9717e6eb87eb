use Rattle.std.proofs.Common.{◌-◌, ◌^◌, get_or, take, arith}
use Rattle.fixed_num.specs.JsonNumber.{number_of}
use Rattle.json_exact.proofs.Paths.{number_more, saturated}
use Rattle.json_exact.proofs.path.number_of.Goals as goal

pub loop-digit-preserved : goal.loop-digit-preserved
loop-digit-preserved c =
    let ds = c.args.digits.now in
    let i = c.loop-digit.digit-index in
    rw (
      c.saturating_add-number.ensures,
      c.saturating_mul.ensures,
      c.from.ensures,
      c.saturating_sub.ensures,
      c.loop-digit.invariant,
      number_more ds i (omega arith),
    ) (saturated (number_of (take i ds)) (get_or ds i 0 - 48) (2 ^ 64 - 1))
