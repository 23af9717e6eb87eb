use Rattle.std.proofs.Common.{◌≡◌, ◌*◌, ◌^◌, ◌≤◌, arith}
use Rattle.fixed_num.specs.Number.{million}
use Rattle.tick_kit.proofs.IntervalLemmas.{bound_fits, not_below, too_great}
use Rattle.tick_kit.proofs.intervals.is_nearer_first.Goals as goal

pub overflow_mul-bound-3 : goal.overflow_mul-bound-3
overflow_mul-bound-3 c =
    let few = c.requires.few in let is = c.from-unit.ensures in
    let unit : 1000000 * c.from-unit.result ≤ 10 ^ 9 = omega (arith, few, is) in
    let same : c.from.result * c.from-2.result ≡ c.args.a * c.args.b = cc in
    let close : c.from.result * c.from-2.result ≤ 3 * 10 ^ 20 = omega (arith, same) in
    let fits = bound_fits (c.from.result * c.from-2.result) (1000000 * c.from-unit.result) close unit in
    omega (arith, fits)

pub returns-in-None : goal.returns-in-None
returns-in-None c =
    let few = c.requires.few in
    let unit : million * c.args.count ≤ 10 ^ 9 = omega (arith, few) in
    not_below (c.args.span * c.args.span) (c.args.a * c.args.b) (million * c.args.count) c.requires.close unit
    (too_great (c.args.span * c.args.span) c.in-None.ensures)
