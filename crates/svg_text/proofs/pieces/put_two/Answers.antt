use Rattle.std.proofs.Common.{refl, ◌++◌}
use Rattle.fixed_num.specs.Decimal.{spelling}
use Rattle.svg_text.proofs.Steps.{prints_begun, prints_then}
use Rattle.svg_text.proofs.pieces.put_two.Goals as goal

pub returns-in_err-put_after : goal.returns-in_err-put_after
returns-in_err-put_after g c = prints_begun (c.args.second.now ++ spelling c.args.y) _ refl c.from_residual.ensures.0 c.in_err-put_after.ensures

pub returns : goal.returns
returns g c = prints_then c.in_ok-put_after.ensures c.put_after-2.ensures
