use Rattle.std.proofs.Common.{sym}
use Rattle.expr_reading.proofs.ReadingLemmas.{expression_is, no_expression}
use Rattle.expr_reading.proofs.readings.expression_of.Goals as goal

pub returns-in-Ok : goal.returns-in-Ok
returns-in-Ok c = sym ((expression_is c.args.text.now c.in-Ok.e).1 c.in-Ok.ensures.sound)

pub returns-in-Err-Shape : goal.returns-in-Err-Shape
returns-in-Err-Shape c =
    let is = c.in-Err-Shape.is in
    sym (no_expression c.args.text.now (c.in-Err-Shape.ensures.shape cc))
