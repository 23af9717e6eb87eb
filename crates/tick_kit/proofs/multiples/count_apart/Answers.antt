use Rattle.std.proofs.Common.{◌≡◌, arith, ◌+ℤ◌, ◌-ℤ◌, unsigned_abs}
use Rattle.std.proofs.lemmas.Int.{ints}
use Rattle.tick_kit.proofs.multiples.count_apart.Goals as goal

pub returns : goal.returns
returns c =
    let value : c.unsigned_abs.result ≡ unsigned_abs (c.args.high +ℤ c.args.step -ℤ c.args.first) = omega (arith, ints) in
    let other : c.unsigned_abs-2.result ≡ unsigned_abs c.args.step = omega (arith, ints) in
    cc
