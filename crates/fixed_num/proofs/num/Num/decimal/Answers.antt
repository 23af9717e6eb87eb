use Rattle.std.proofs.Common.{sym, subst, arith}
use Rattle.std.specs.Str.{IsUtf8}
use Rattle.fixed_num.proofs.Ascii.{spelling_utf8}
use Rattle.fixed_num.proofs.num.Num.decimal.Goals as goal

pub invariant_of-result : goal.invariant_of-result
invariant_of-result c = (
  omega (arith, c.write_decimal-len.ensures.short),
  subst IsUtf8 (sym c.write_decimal-len.ensures.spelled)
      (spelling_utf8 c.args.self),
)
