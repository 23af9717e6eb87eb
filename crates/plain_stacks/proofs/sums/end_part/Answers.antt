use Rattle.std.proofs.Common.{◌≡◌, ℤ, pos, ◌+ℤ◌, ◌*ℤ◌, unsigned_abs, to_z, of_z, arith}
use mir.Syntax.{w128}
use Rattle.std.proofs.lemmas.Int.{ints}
use Rattle.fixed_num.specs.Number.{million, rounded}
use Rattle.plain_stacks.specs.Spans.{size}
use Rattle.plain_stacks.proofs.SumLemmas.{rounded_same, range_so}
use Rattle.plain_stacks.proofs.sums.end_part.Goals as goal

pub returns : goal.returns
returns c =
    let held : ℤ → ℤ = λ z. to_z w128 (of_z w128 z) in
    let sum : ℤ = held (held c.millionths.result +ℤ held c.millionths-2.result) in
    let part : c.rounded.result ≡ rounded ((c.args.before +ℤ size c.args.value) *ℤ pos million) (unsigned_abs c.args.whole) =
    rounded_same c.rounded.result (held (sum *ℤ held (pos 1000000))) (held c.millionths-3.result)
    ((c.args.before +ℤ size c.args.value) *ℤ pos million) (unsigned_abs c.args.whole)
    c.rounded.ensures.value
    (omega (arith, ints, c.millionths.ensures, c.size.ensures, c.millionths-2.ensures))
    (omega (arith, ints, c.size-2.ensures, c.millionths-3.ensures)) in
    range_so c.of_millionths.result (held c.rounded.result)
    (rounded ((c.args.before +ℤ size c.args.value) *ℤ pos million) (unsigned_abs c.args.whole)) c.of_millionths.ensures
    (omega (arith, ints, part))
