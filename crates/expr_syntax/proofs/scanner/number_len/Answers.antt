use Rattle.std.proofs.Common.{◌≡◌, ◌+◌, ap, sym, ◌∙◌, arith, drop, get_or}
use Rattle.expr_syntax.specs.inner.Scanner.{is_exponent_mark, number_len}
use Rattle.expr_syntax.proofs.Numbers.{len_more, len_ends, len_none}
use Rattle.expr_syntax.proofs.scanner.number_len.Goals as goal

pub returns-then-not-belongs : goal.returns-then-not-belongs
returns-then-not-belongs c = omega (arith, c.loop-i.invariant, len_ends c.loop-i.behind c.args.bytes.now c.loop-i.i (omega arith) (cc))

pub loop-i-preserved : goal.loop-i-preserved
loop-i-preserved c =
    let more = len_more c.loop-i.behind c.args.bytes.now c.loop-i.i c.loop-i-test.true (sym c.belongs.ensures ∙ c.if-not-belongs.false) in
    let next : number_len c.is_exponent_mark-behind.result (drop (c.loop-i.i + 1) c.args.bytes.now)
    ≡ number_len (is_exponent_mark (get_or c.args.bytes.now c.loop-i.i 0)) (drop (c.loop-i.i + 1) c.args.bytes.now) =
    ap (λ m. number_len m (drop (c.loop-i.i + 1) c.args.bytes.now)) c.is_exponent_mark-behind.ensures in
    omega (arith, c.loop-i.invariant, more, next)

pub returns : goal.returns
returns c = omega (arith, c.loop-i.invariant, len_none c.loop-i.behind c.args.bytes.now c.loop-i.i (omega arith))
