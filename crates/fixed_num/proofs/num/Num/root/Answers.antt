use Rattle.std.proofs.Common.{◌≡◌, sym, subst, pos, ◌≤ℤ◌, arith, to_z}
use Rattle.std.proofs.lemmas.Int.{ints}
use Rattle.std.specs.Int.{w128}
use Rattle.fixed_num.specs.Number.{IsRoot}
use Rattle.fixed_num.proofs.RoundingLemmas.{root_from_squares}
use Rattle.fixed_num.proofs.LawLemmas.{one_root, root_of_is_root}
use Rattle.fixed_num.proofs.num.Num.root.Goals as goal

found : (c : goal.After-isqrt-root) → IsRoot c.args.self (to_z w128 c.isqrt-root.result)
found c =
    let small : to_z w128 c.isqrt-root.result ≡ pos c.isqrt-root.result = omega (arith, ints, c.isqrt-root.ensures.bound) in
    let root = root_from_squares c.args.self _ _ (omega (arith, ints, c.unsigned_abs.ensures.value)) c.isqrt-root.ensures.square_le
    c.isqrt-root.ensures.next_square_gt in
    subst (IsRoot c.args.self) (sym small) root

pub returns-clause-greatest : goal.returns-clause-greatest
returns-clause-greatest c = found c

pub returns-clause-value : goal.returns-clause-value
returns-clause-value c =
    let from_zero : pos 0 ≤ℤ c.args.self = omega (arith, ints) in
    (from_zero, one_root c.args.self _ _ (found c) (root_of_is_root c.args.self (omega (arith, ints), omega (arith, ints)) from_zero))
