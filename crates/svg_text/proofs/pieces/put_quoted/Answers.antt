use Rattle.std.proofs.Common.{refl}
use Rattle.std.specs.Prelude.{codes}
use Rattle.svg_text.proofs.Steps.{prints_begun, prints_then}
use Rattle.svg_text.proofs.pieces.put_quoted.Goals as goal

pub returns-in_err-put_escaped : goal.returns-in_err-put_escaped
returns-in_err-put_escaped g c = prints_begun (codes "\"") _ refl c.from_residual.ensures.0 c.in_err-put_escaped.ensures

pub returns : goal.returns
returns g c = prints_then c.in_ok-put_escaped.ensures c.put_text.ensures
