use Rattle.std.specs.Prelude.{codes}
use Rattle.fixed_num.specs.Decimal.{spelling}
use Rattle.svg_text.specs.SceneText.{xml_text}
use Rattle.svg_text.proofs.Steps.{prints_same, attributes_joined}
use Rattle.svg_text.proofs.scene_text.put_outline.Goals as goal

pub returns : goal.returns
returns g c = prints_same (attributes_joined (codes " ") (codes "stroke") (codes "=\"") (xml_text c.args.stroke.now) (codes "\"")
    (codes "stroke-width") (spelling c.args.width)) c.put_pieces.ensures
