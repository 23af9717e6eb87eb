use Rattle.std.proofs.Common.{◌≡◌, ℤ, pos, ◌+ℤ◌, ◌-ℤ◌, to_z, of_z, arith}
use mir.Syntax.{w128}
use Rattle.std.proofs.lemmas.Int.{ints}
use Rattle.fixed_num.specs.Number.{IsNumber, rounded}
use Rattle.plain_stacks.proofs.SumLemmas.{rounded_same, range_so}
use Rattle.plain_stacks.proofs.sums.middle_start.Goals as goal

pub overflow_add-lack : goal.overflow_add-lack
overflow_add-lack c =
    let small : IsNumber c.rounded-lack.result =
    c.rounded-lack.ensures.bound (omega (arith, ints, c.millionths.ensures.in_range, c.millionths-2.ensures.in_range)) in
    omega (arith, ints, small, c.millionths-3.ensures.in_range)

pub returns : goal.returns
returns c =
    let small : IsNumber c.rounded-lack.result =
    c.rounded-lack.ensures.bound (omega (arith, ints, c.millionths.ensures.in_range, c.millionths-2.ensures.in_range)) in
    let held : ℤ → ℤ = λ z. to_z w128 (of_z w128 z) in
    let lack : c.rounded-lack.result ≡ rounded (c.args.greatest -ℤ c.args.whole) 2 =
    rounded_same c.rounded-lack.result (held (held c.millionths.result -ℤ held c.millionths-2.result)) (held (pos 2))
    (c.args.greatest -ℤ c.args.whole) 2 c.rounded-lack.ensures.value
    (omega (arith, ints, c.millionths.ensures, c.millionths-2.ensures)) (omega (arith, ints)) in
    range_so c.of_millionths.result (held (held c.rounded-lack.result +ℤ held c.millionths-3.result))
    (rounded (c.args.greatest -ℤ c.args.whole) 2 +ℤ c.args.before) c.of_millionths.ensures
    (omega (arith, ints, small, lack, c.millionths-3.ensures))
