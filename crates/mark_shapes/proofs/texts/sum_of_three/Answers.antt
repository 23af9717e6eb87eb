use Rattle.std.proofs.Common.{ℤ, ◌+ℤ◌, to_z, of_z, arith}
use mir.Syntax.{w128}
use Rattle.std.proofs.lemmas.Int.{ints}
use Rattle.mark_shapes.proofs.TextLemmas.{range_so}
use Rattle.mark_shapes.proofs.texts.sum_of_three.Goals as goal

pub returns : goal.returns
returns c =
    let held : ℤ → ℤ = λ z. to_z w128 (of_z w128 z) in
    range_so c.of_millionths.result (held (held (held c.millionths.result +ℤ held c.millionths-2.result) +ℤ held c.millionths-3.result))
    (c.args.a +ℤ c.args.b +ℤ c.args.c) c.of_millionths.ensures
    (omega (arith, ints, c.millionths.ensures, c.millionths-2.ensures, c.millionths-3.ensures))
