use Rattle.std.proofs.Common.{arith}
use Rattle.std.specs.Prelude.{◌<ℤ◌, ◌≤ℤ◌}
use Rattle.std.proofs.lemmas.Int.{ints}
use Rattle.scale_kit.proofs.FarLemmas as far
use Rattle.scale_kit.proofs.lines.far_end.Goals as goal

pub returns-then-millionths-2 : goal.returns-then-millionths-2
returns-then-millionths-2 c = λ none.
    let rises : c.args.range.0 <ℤ c.args.range.1 = omega (arith, ints) in
    let ahead : c.args.range.0 ≤ℤ c.args.p = omega (arith, ints) in
    far.ahead c.args.domain c.args.range c.args.p c.millionths.ensures.in_range c.millionths-2.ensures.in_range c.requires.rising none rises
    ahead

pub returns-else-millionths-2 : goal.returns-else-millionths-2
returns-else-millionths-2 c = λ none.
    let rises : c.args.range.0 <ℤ c.args.range.1 = omega (arith, ints) in
    let back : c.args.p ≤ℤ c.args.range.0 = omega (arith, ints) in
    far.back c.args.domain c.args.range c.args.p c.millionths.ensures.in_range c.millionths-2.ensures.in_range c.requires.rising none rises
    back

pub returns-then-millionths-3 : goal.returns-then-millionths-3
returns-then-millionths-3 c = λ none.
    let least : c.args.range.1 ≤ℤ c.args.range.0 = omega (arith, ints) in
    let ahead : c.args.range.0 ≤ℤ c.args.p = omega (arith, ints) in
    far.ahead_down c.args.domain c.args.range c.args.p c.millionths.ensures.in_range c.millionths-2.ensures.in_range c.requires.rising none
    (far.falls _ _ c.requires.wide least) ahead

pub returns-else-millionths-3 : goal.returns-else-millionths-3
returns-else-millionths-3 c = λ none.
    let least : c.args.range.1 ≤ℤ c.args.range.0 = omega (arith, ints) in
    let back : c.args.p ≤ℤ c.args.range.0 = omega (arith, ints) in
    far.back_down c.args.domain c.args.range c.args.p c.millionths.ensures.in_range c.millionths-2.ensures.in_range c.requires.rising none
    (far.falls _ _ c.requires.wide least) back
