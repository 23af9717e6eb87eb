use Rattle.std.proofs.Common.{refl}
use Rattle.fixed_num.specs.Decimal.{spelling}
use Rattle.svg_text.proofs.Steps.{prints_begun, prints_then}
use Rattle.svg_text.proofs.pieces.put_after.Goals as goal

pub returns-in_err-put_text : goal.returns-in_err-put_text
returns-in_err-put_text g c = prints_begun (spelling c.args.number) _ refl c.from_residual.ensures.0 c.in_err-put_text.ensures

pub returns : goal.returns
returns g c = prints_then c.in_ok-put_text.ensures c.put_number.ensures
