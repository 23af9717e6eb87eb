use Rattle.std.specs.Prelude.{codes}
use Rattle.fixed_num.specs.Decimal.{spelling}
use Rattle.svg_text.proofs.Steps.{prints_same, head_joined}
use Rattle.svg_text.proofs.scene_text.put_head.Goals as goal

pub returns : goal.returns
returns g c = prints_same (head_joined (codes "<svg xmlns=\"http://www.w3.org/2000/svg\" version=\"1.1\"") (codes " ") (codes "width")
    (codes "=\"") (spelling c.args.width) (codes "\"") (codes "height") (spelling c.args.height) (codes "viewBox") (codes "0 0 ")
    (codes ">\n")) c.put_pieces.ensures
