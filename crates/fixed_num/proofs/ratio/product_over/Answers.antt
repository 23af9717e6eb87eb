use Rattle.std.proofs.Common.{arith}
use Rattle.fixed_num.proofs.ProductLemmas.{quotient_by_parts, remainder_by_parts}
use Rattle.fixed_num.proofs.ratio.product_over.Goals as goal

pub returns-then-whole : goal.returns-then-whole
returns-then-whole c = λ h. omega (arith, quotient_by_parts c.args.a c.args.b c.args.d 72057594037927936 (omega arith))

pub returns-then-quotient-gt-REACH : goal.returns-then-quotient-gt-REACH
returns-then-quotient-gt-REACH c = λ h. omega (arith, quotient_by_parts c.args.a c.args.b c.args.d 72057594037927936 (omega arith))

pub returns-else-quotient-gt-REACH : goal.returns-else-quotient-gt-REACH
returns-else-quotient-gt-REACH c =
    let quotient = quotient_by_parts c.args.a c.args.b c.args.d 72057594037927936 c.requires.d_above_zero in
    let remainder = remainder_by_parts c.args.a c.args.b c.args.d 72057594037927936 c.requires.d_above_zero in
    (omega (arith, quotient), cc)
