use Rattle.std.specs.Prelude.{codes}
use Rattle.fixed_num.specs.Decimal.{spelling}
use Rattle.svg_text.proofs.Steps.{prints_same, pair_joined}
use Rattle.svg_text.proofs.shapes.put_pair.Goals as goal

pub returns : goal.returns
returns g c = prints_same (pair_joined c.args.before.now (spelling c.args.x) (codes ",") (spelling c.args.y)) c.put_two.ensures
