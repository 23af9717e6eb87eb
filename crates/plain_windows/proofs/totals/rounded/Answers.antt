use Rattle.std.proofs.Common.{◌≡◌, ℤ, pos, ◌+ℤ◌, ◌*ℤ◌, to_z, of_z, sym, subst, arith}
use mir.Syntax.{w128}
use Rattle.std.proofs.lemmas.Int.{ints}
use Rattle.fixed_num.specs.Number.{IsNumber, rounded}
use Rattle.plain_groups.proofs.NumberLemmas.{quotient_rounds, rounded_is_number}
use Rattle.plain_windows.proofs.totals.rounded.Goals as goal

pub returns-clause-value : goal.returns-clause-value
returns-clause-value c =
    let held : ℤ → ℤ = λ z. to_z w128 (of_z w128 z) in
    let is : c.div_euclid.result ≡ rounded c.args.p c.args.q =
    quotient_rounds c.args.p (held (held (pos 2 *ℤ held c.args.p) +ℤ held c.from.result)) (held (pos 2 *ℤ held c.from-2.result))
    c.div_euclid.result c.args.q c.div_euclid.ensures (omega (arith, ints)) (omega (arith, ints)) in
    omega (arith, ints, is)

pub returns-clause-bound : goal.returns-clause-bound
returns-clause-bound c = λ small. subst IsNumber (sym (returns-clause-value c)) (rounded_is_number c.args.p c.args.q c.requires.q_above_zero small)
